-- The names that a call asks for, and the files that it reads to their ends.
use Rattle.std.proofs.Common.{◌≡◌, refl, sym, subst, ℕ, List, [], ◌∷◌, inl, inr, append-nil}
use Rattle.pip_base.specs.Picks.{AsksOnce}
use Rattle.command_words.specs.Words.{Command, IsCommand}
use Rattle.command_words.proofs.CommandWords.{one-command}
use Rattle.command_words.proofs.PageWords.{page-no-command}
use Rattle.input_files.specs.declared.fault.FileFault.{FileFault}
use Rattle.input_files.specs.declared.fault.FileFault.TheVariants.{Bad, ReadFault, TooLarge, Memory}
use Rattle.input_files.specs.Inputs.{Input, inputs, names_of, IsFileCause}
use Rattle.input_files.specs.Reads.{Shelved, HasRead, StopsAt}
use Rattle.input_files.proofs.Reading.{none-whole}
use Rattle.top_call.specs.Names.{AsksNext, AsksUpTo, AsksInOrder, AsksForAll}

-- All files were read.
pub all-up-to : (shelf : Shelved) (c : Command) → HasRead shelf c → AsksUpTo shelf c
all-up-to shelf c r = record { sets = r.sets; earlier = inputs c; later = []; in_order = sym (append-nil (inputs c)); read = r.all; asked = r.asked }

-- A file can't be had.
stop-up-to : (shelf : Shelved) (c : Command) (fault : FileFault) → StopsAt shelf c fault → AsksUpTo shelf c
stop-up-to shelf c fault s = record { sets = s.sets; earlier = s.earlier; later = s.input ∷ s.later; in_order = s.in_order; read = s.read_before; asked = next fault s.cause } where
  next : (f : FileFault) → IsFileCause shelf.told s.sets (names_of s.earlier) s.input shelf.asked shelf.faults_before shelf.faults_now f → AsksOnce (names_of s.earlier) shelf.asked s.input.name
  next (Bad flaw) h = inr h.0
  next (ReadFault name) h = inr h.0
  next (TooLarge name) h = inr h.0
  next Memory h = h.0

module _ (words : List (List ℕ)) (shelf : Shelved) where
  -- Words that are no command, or ask for a page, ask for nothing.
  pub asks-nothing : shelf.asked ≡ [] → AsksInOrder words shelf
  asks-nothing nothing = record {
    no_command = λ _. nothing;
    no_file = λ p asks. nothing;
    in_turn = λ c is_c. record { sets = []; earlier = []; later = inputs c; in_order = refl; read = record { are_of = tt; whole = none-whole shelf.picked_before shelf.picked_now shelf.left }; asked = next (inputs c) };
  } where
    next : (later : List Input) → AsksNext shelf.asked [] later
    next [] = nothing
    next (i ∷ later) = inl nothing

  in-order : (c : Command) → IsCommand words c → AsksUpTo shelf c → AsksInOrder words shelf
  in-order c is_c up = record {
    no_command = λ none. absurd (none.no_work c is_c);
    no_file = λ p asks. absurd (page-no-command words p c asks is_c);
    in_turn = λ other is_other. subst (λ (x : Command). AsksUpTo shelf x) (one-command words c other is_c is_other) up;
  }

  pub asks-files : (c : Command) → IsCommand words c → HasRead shelf c → AsksInOrder words shelf
  asks-files c is_c r = in-order c is_c (all-up-to shelf c r)

  pub asks-until : (c : Command) (fault : FileFault) → IsCommand words c → StopsAt shelf c fault → AsksInOrder words shelf
  asks-until c fault is_c s = in-order c is_c (stop-up-to shelf c fault s)

  -- All files of a command were asked for and read to their ends.
  pub asks-all : (c : Command) → IsCommand words c → HasRead shelf c → AsksForAll words shelf
  asks-all c is_c r other is_other = subst (λ (x : Command). HasRead shelf x) (one-command words c other is_c is_other) r
