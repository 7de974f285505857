-- The command of the arguments that were found.
use Rattle.std.proofs.Common.{◌≡◌, refl, ◌≤◌, sym, ◌∙◌, ap, subst, ℕ, Bool, false, true, cond, List, [], ◌∷◌, length, codes, slice_get, Option, Some, None, option_map, arith, rules, inl, inr}
use Rattle.std.specs.Prelude.{◌⊎◌, IfSome, IsSome}
use Rattle.std.specs.Borrow.{Bor}
use Rattle.command_words.specs.declared.words.Arguments.{Arguments}
use Rattle.command_words.specs.declared.shape.Verb.{Verb}
use Rattle.command_words.specs.declared.shape.Verb.TheVariants.{Run, List as Lists, Dump, Drill, Judge, Capture, Desk, Get, Compare, Explain, Stat, Sets}
use Rattle.command_words.specs.GetWords.{is_file_name}
use Rattle.command_words.specs.Words.{NameStdinOnce, Command, run, list, dump, drill, judge, capture, desk, get, compare, explain, stat, IsCommand, AreWords, ArePacketWords, AreFileWords, AreThreads, IsNumber, last_seed, most_drill_elements, judge_capture, sets_of}
use Rattle.command_words.specs.WordForms.{HasVerb, HasShape, HasArguments, ArePlain, verb_of}
use Rattle.command_words.proofs.CommandWords.{number-is-name}

plain-threads : (threads : Option (List ℕ)) (n : ℕ) → AreThreads threads n → IfSome threads (λ w. is_file_name w ≡ true)
plain-threads None n h = tt
plain-threads (Some word) n h = number-is-name 1 16 word n (omega arith) h

-- The words are a word and plain arguments.
pub record HavePlainArguments (words : List (List ℕ)) : Type 0 where
  pub word : List ℕ
  pub names : List (List ℕ)
  pub threads : Option (List ℕ)
  pub keep_going : Bool
  pub said : AreWords words word names threads keep_going
  pub plain : ArePlain names threads

module _ (words : List (List ℕ)) where
  some-arguments : (word : List ℕ) (names : List (List ℕ)) (threads : Option (List ℕ)) (goes : Bool) (n : ℕ) → length names ≤ 4 → AreThreads threads n → AreWords words word names threads goes → HavePlainArguments words
  some-arguments word names threads goes n few threads_are said = record {
    word = word;
    names = names;
    threads = threads;
    keep_going = goes;
    said = said;
    plain = record { few = few; no_dash = plain-threads threads n threads_are };
  }

  arguments-of-command : (c : Command) → HasShape (verb_of c) → IsCommand words c → HavePlainArguments words
  arguments-of-command (run script keys n goes) shape h = some-arguments (codes "run") (script ∷ keys ∷ []) h.0 goes n (omega arith) h.2 h.1
  arguments-of-command (judge script rules keys n goes) shape h = some-arguments (codes "judge") (script ∷ rules ∷ keys ∷ []) h.0 goes n (omega arith) h.2 h.1
  arguments-of-command (judge_capture script rules plan file n goes) shape h = some-arguments (codes "judge") (script ∷ rules ∷ plan ∷ file ∷ []) h.0 goes n (omega arith) h.2 h.1
  arguments-of-command (capture script plan file n goes) shape h = some-arguments (codes "capture") (script ∷ plan ∷ file ∷ []) h.0 goes n (omega arith) h.2 h.1
  arguments-of-command (list script goes) shape h = some-arguments (codes "list") (script ∷ []) None goes 1 (omega arith) refl h
  arguments-of-command (dump script goes) shape h = some-arguments (codes "dump") (script ∷ []) None goes 1 (omega arith) refl h
  arguments-of-command (stat script goes) shape h = some-arguments (codes "stat") (script ∷ []) None goes 1 (omega arith) refl h
  arguments-of-command (desk script goes) shape h = some-arguments (codes "desk") (script ∷ []) None goes 1 (omega arith) refl h
  arguments-of-command (drill seed elements n) shape h = some-arguments (codes "drill") (h.1 ∷ h.2 ∷ []) h.0 false n (omega arith) h.6 h.3
  arguments-of-command (compare first second goes) shape h = some-arguments (codes "compare") (first ∷ second ∷ []) None goes 1 (omega arith) refl h.0
  arguments-of-command (explain script keys goes) shape h = some-arguments (codes "explain") (script ∷ keys ∷ []) None goes 1 (omega arith) refl h.0
  arguments-of-command (sets_of file) shape h = some-arguments (codes "sets") (file ∷ []) None false 1 (omega arith) refl h
  arguments-of-command (get script key moment goes) shape h = absurd (shape refl)

  -- The words of a command with a shape are such.
  pub plain-arguments : (verb : Verb) → HasShape verb → HasVerb words verb → HavePlainArguments words
  plain-arguments verb shape h = arguments-of-command h.0 (λ e. shape (sym h.2 ∙ e)) h.1

-- a text that was found, if there is one
abbrev Found : Type 0
Found = Option (Bor (List ℕ))

abbrev text_of : Found → Option (List ℕ)
text_of = option_map (λ w. w.now)

-- What the arguments of words with packet threads are, of words with a script alone, of words with two names, and of a drill.
pub record IsPacketOf (words : List (List ℕ)) (a : Arguments) (word : List ℕ) (names : List (List ℕ)) : Type 0 where
  pub count : ℕ
  pub first : text_of a.first ≡ slice_get names 0
  pub second : text_of a.second ≡ slice_get names 1
  pub third : text_of a.third ≡ slice_get names 2
  pub fourth : text_of a.fourth ≡ slice_get names 3
  pub threads_are : AreThreads (text_of a.threads) count
  pub said : AreWords words word names (text_of a.threads) a.keep_going
  pub once : NameStdinOnce names

pub record IsAloneOf (words : List (List ℕ)) (a : Arguments) (word : List ℕ) : Type 0 where
  pub script : List ℕ
  pub first : text_of a.first ≡ Some script
  pub said : AreWords words word (script ∷ []) None a.keep_going

-- of words with a name alone, and no mark
pub record IsRulesetOf (words : List (List ℕ)) (a : Arguments) (word : List ℕ) : Type 0 where
  pub file : List ℕ
  pub first : text_of a.first ≡ Some file
  pub said : AreWords words word (file ∷ []) None false

pub record IsFilesOf (words : List (List ℕ)) (a : Arguments) (word : List ℕ) : Type 0 where
  pub name : List ℕ
  pub other : List ℕ
  pub first : text_of a.first ≡ Some name
  pub second : text_of a.second ≡ Some other
  pub said : AreWords words word (name ∷ other ∷ []) None a.keep_going
  pub once : NameStdinOnce (name ∷ other ∷ [])

pub record IsDrillOf (words : List (List ℕ)) (a : Arguments) : Type 0 where
  pub seed_word : List ℕ
  pub count_word : List ℕ
  pub seed : ℕ
  pub elements : ℕ
  pub count : ℕ
  pub first : text_of a.first ≡ Some seed_word
  pub second : text_of a.second ≡ Some count_word
  pub seed_is : IsNumber 0 last_seed seed_word seed
  pub elements_are : IsNumber 1 most_drill_elements count_word elements
  pub threads_are : AreThreads (text_of a.threads) count
  pub said : AreWords words (codes "drill") (seed_word ∷ count_word ∷ []) (text_of a.threads) false

-- with two names, and with three
abbrev pub IsPairOf : List (List ℕ) → Arguments → List ℕ → Type 0
IsPairOf words a word = (script : List ℕ) × (other : List ℕ) × IsPacketOf words a word (script ∷ other ∷ [])

abbrev pub IsTripleOf : List (List ℕ) → Arguments → List ℕ → Type 0
IsTripleOf words a word = (script : List ℕ) × (other : List ℕ) × (last : List ℕ) × IsPacketOf words a word (script ∷ other ∷ last ∷ [])

-- with four names, and of a `judge`: its fourth name is there if it has four
abbrev pub IsFourOf : List (List ℕ) → Arguments → List ℕ → Type 0
IsFourOf words a word = (script : List ℕ) × (other : List ℕ) × (next : List ℕ) × (last : List ℕ) × IsPacketOf words a word (script ∷ other ∷ next ∷ last ∷ [])

abbrev pub IsJudgeOf : List (List ℕ) → Arguments → Type 0
IsJudgeOf words a = IsTripleOf words a (codes "judge") ⊎ IsFourOf words a (codes "judge")

abbrev Of : List (List ℕ) → Arguments → Verb → Type 0
Of words a Run = IsPairOf words a (codes "run")
Of words a Lists = IsAloneOf words a (codes "list")
Of words a Dump = IsAloneOf words a (codes "dump")
Of words a Stat = IsAloneOf words a (codes "stat")
Of words a Drill = IsDrillOf words a
Of words a Judge = IsJudgeOf words a
Of words a Capture = IsTripleOf words a (codes "capture")
Of words a Desk = IsAloneOf words a (codes "desk")
Of words a Get = ⊥
Of words a Compare = IsFilesOf words a (codes "compare")
Of words a Explain = IsFilesOf words a (codes "explain")
Of words a Sets = IsRulesetOf words a (codes "sets")

module _ (words : List (List ℕ)) (a : Arguments) (given : (word : List ℕ) (names : List (List ℕ)) (threads : Option (List ℕ)) (keep_going : Bool) → AreWords words word names threads keep_going → ArePlain names threads → HasArguments a names threads keep_going) where
  with-mark : (word : List ℕ) (names : List (List ℕ)) (threads : Option (List ℕ)) (goes : Bool) → a.keep_going ≡ goes → AreWords words word names threads goes → AreWords words word names threads a.keep_going
  with-mark word names threads goes e h = subst (λ (b : Bool). AreWords words word names threads b) (sym e) h

  with-threads : (word : List ℕ) (names : List (List ℕ)) (threads : Option (List ℕ)) (goes : Bool) → text_of a.threads ≡ threads → AreWords words word names threads goes → AreWords words word names (text_of a.threads) goes
  with-threads word names threads goes e h = subst (λ (o : Option (List ℕ)). AreWords words word names o goes) (sym e) h

  alone : (word script : List ℕ) (goes : Bool) → AreWords words word (script ∷ []) None goes → IsAloneOf words a word
  alone word script goes h =
      let k = given word (script ∷ []) None goes h (record { few = omega arith; no_dash = tt }) in
      record { script = script; first = k.first; said = with-mark word (script ∷ []) None goes k.mark h }

  packets : (word : List ℕ) (names : List (List ℕ)) (n : ℕ) (goes : Bool) → length names ≤ 4 → ArePacketWords words word names n goes → IsPacketOf words a word names
  packets word names n goes few h =
      let k = given word names h.0 goes h.1 (record { few = few; no_dash = plain-threads h.0 n h.2 }) in record {
        count = n;
        first = k.first;
        second = k.second;
        third = k.third;
        fourth = k.fourth;
        threads_are = subst (λ (o : Option (List ℕ)). AreThreads o n) (sym k.threads_are) h.2;
        said = with-threads word names h.0 a.keep_going k.threads_are (with-mark word names h.0 goes k.mark h.1);
        once = h.3;
      }

  files : (word first second : List ℕ) (goes : Bool) → AreFileWords words word (first ∷ second ∷ []) goes → IsFilesOf words a word
  files word first second goes h =
      let names = first ∷ second ∷ [] in
      let k = given word names None goes h.0 (record { few = omega arith; no_dash = tt }) in
      record { name = first; other = second; first = k.first; second = k.second; said = with-mark word names None goes k.mark h.0; once = h.1 }

  of-command : (c : Command) → HasShape (verb_of c) → IsCommand words c → Of words a (verb_of c)
  of-command (run script keys n goes) shape h = (script, keys, packets (codes "run") (script ∷ keys ∷ []) n goes (omega arith) h)
  of-command (judge script rules keys n goes) shape h = inl (script, rules, keys, packets (codes "judge") (script ∷ rules ∷ keys ∷ []) n goes (omega arith) h)
  of-command (judge_capture script rules plan file n goes) shape h = inr (script, rules, plan, file, packets (codes "judge") (script ∷ rules ∷ plan ∷ file ∷ []) n goes (omega arith) h)
  of-command (capture script plan file n goes) shape h = (script, plan, file, packets (codes "capture") (script ∷ plan ∷ file ∷ []) n goes (omega arith) h)
  of-command (list script goes) shape h = alone (codes "list") script goes h
  of-command (dump script goes) shape h = alone (codes "dump") script goes h
  of-command (stat script goes) shape h = alone (codes "stat") script goes h
  of-command (desk script goes) shape h = alone (codes "desk") script goes h
  of-command (drill seed elements n) shape h =
      let k = given (codes "drill") (h.1 ∷ h.2 ∷ []) h.0 false h.3 (record { few = omega arith; no_dash = plain-threads h.0 n h.6 }) in record {
        seed_word = h.1;
        count_word = h.2;
        seed = seed;
        elements = elements;
        count = n;
        first = k.first;
        second = k.second;
        seed_is = h.4;
        elements_are = h.5;
        threads_are = subst (λ (o : Option (List ℕ)). AreThreads o n) (sym k.threads_are) h.6;
        said = with-threads (codes "drill") (h.1 ∷ h.2 ∷ []) h.0 false k.threads_are h.3;
      }
  of-command (compare first second goes) shape h = files (codes "compare") first second goes h
  of-command (explain script keys goes) shape h = files (codes "explain") script keys goes h
  of-command (sets_of file) shape h =
      let k = given (codes "sets") (file ∷ []) None false h (record { few = omega arith; no_dash = tt }) in
      record { file = file; first = k.first; said = h }
  of-command (get script key moment goes) shape h = absurd (shape refl)

  -- The arguments of words that are a command with a shape.
  pub of-verb : (verb v : Verb) → verb ≡ v → HasShape verb → HasVerb words verb → Of words a v
  of-verb verb v e shape h = subst (λ (v : Verb). Of words a v) (h.2 ∙ e) (of-command h.0 (λ f. shape (sym h.2 ∙ f)) h.1)

-- A word that was found.
there : (o : Found) (word : List ℕ) → text_of o ≡ Some word → IsSome o
there None word e = absurd (cc e)
there (Some w) word e = search rules

found-is : (o : Found) (w : Bor (List ℕ)) (word : List ℕ) → o ≡ Some w → text_of o ≡ Some word → word ≡ w.now
found-is o w word e h = cc (ap text_of e, h)

module _ (words : List (List ℕ)) (a : Arguments) where
  -- Each command has a first name, and those with more have a second and a third.
  pub has-first : (verb : Verb) → Of words a verb → IsSome a.first
  has-first Run of = there a.first of.0 of.2.first
  has-first Lists of = there a.first of.script of.first
  has-first Dump of = there a.first of.script of.first
  has-first Stat of = there a.first of.script of.first
  has-first Drill of = there a.first of.seed_word of.first
  has-first Judge (inl of) = there a.first of.0 of.3.first
  has-first Judge (inr of) = there a.first of.0 of.4.first
  has-first Capture of = there a.first of.0 of.3.first
  has-first Desk of = there a.first of.script of.first
  has-first Get of = absurd of
  has-first Compare of = there a.first of.name of.first
  has-first Explain of = there a.first of.name of.first
  has-first Sets of = there a.first of.file of.first

  pub pair-second : (word : List ℕ) → IsPairOf words a word → IsSome a.second
  pair-second word of = there a.second of.1 of.2.second

  pub triple-second : (word : List ℕ) → IsTripleOf words a word → IsSome a.second
  triple-second word of = there a.second of.1 of.3.second

  pub triple-third : (word : List ℕ) → IsTripleOf words a word → IsSome a.third
  triple-third word of = there a.third of.2 of.3.third

  -- A `judge` has a second and a third name, and how many packet threads is there.
  pub judge-second : IsJudgeOf words a → IsSome a.second
  judge-second (inl of) = there a.second of.1 of.3.second
  judge-second (inr of) = there a.second of.1 of.4.second

  pub judge-third : IsJudgeOf words a → IsSome a.third
  judge-third (inl of) = there a.third of.2 of.3.third
  judge-third (inr of) = there a.third of.2 of.4.third

  pub judge-threads : IsJudgeOf words a → (n : ℕ) × AreThreads (text_of a.threads) n
  judge-threads (inl of) = (of.3.count, of.3.threads_are)
  judge-threads (inr of) = (of.4.count, of.4.threads_are)

  pub files-second : (word : List ℕ) → IsFilesOf words a word → IsSome a.second
  files-second word of = there a.second of.other of.second

  pub drill-second : IsDrillOf words a → IsSome a.second
  drill-second of = there a.second of.count_word of.second

  -- The words name what was found.
  is-packet : (word : List ℕ) (n : ℕ) (names found : List (List ℕ)) → names ≡ found → AreThreads (text_of a.threads) n → IsPacketOf words a word names → ArePacketWords words word found n a.keep_going
  is-packet word n names found same threads_are of =
      (text_of a.threads, subst (λ (ws : List (List ℕ)). AreWords words word ws (text_of a.threads) a.keep_going) same of.said, threads_are, subst (λ (ws : List (List ℕ)). NameStdinOnce ws) same of.once)

  module _ (first : Bor (List ℕ)) (first_is : a.first ≡ Some first) where
    pub is-alone : (word : List ℕ) → IsAloneOf words a word → AreWords words word (first.now ∷ []) None a.keep_going
    is-alone word of = subst (λ (s : List ℕ). AreWords words word (s ∷ []) None a.keep_going) (found-is a.first first of.script first_is of.first) of.said

    pub is-ruleset : IsRulesetOf words a (codes "sets") → IsCommand words (sets_of first.now)
    is-ruleset of = subst (λ (s : List ℕ). AreWords words (codes "sets") (s ∷ []) None false) (found-is a.first first of.file first_is of.first) of.said

    pub is-seed : (of : IsDrillOf words a) → (n : ℕ) × IsNumber 0 last_seed first.now n
    is-seed of = (of.seed, subst (λ (w : List ℕ). IsNumber 0 last_seed w of.seed) (found-is a.first first of.seed_word first_is of.first) of.seed_is)

    module _ (second : Bor (List ℕ)) (second_is : a.second ≡ Some second) where
      pub is-pair : (word : List ℕ) (n : ℕ) → AreThreads (text_of a.threads) n → IsPairOf words a word → ArePacketWords words word (first.now ∷ second.now ∷ []) n a.keep_going
      is-pair word n threads_are of =
          let script = found-is a.first first of.0 first_is of.2.first in
          let other = found-is a.second second of.1 second_is of.2.second in
          is-packet word n (of.0 ∷ of.1 ∷ []) (first.now ∷ second.now ∷ []) (cc (script, other)) threads_are of.2

      pub is-files : (word : List ℕ) → IsFilesOf words a word → AreFileWords words word (first.now ∷ second.now ∷ []) a.keep_going
      is-files word of =
          let name = found-is a.first first of.name first_is of.first in
          let other = found-is a.second second of.other second_is of.second in
          let same : of.name ∷ of.other ∷ [] ≡ first.now ∷ second.now ∷ [] = cc (name, other) in
          (subst (λ (ws : List (List ℕ)). AreWords words word ws None a.keep_going) same of.said, subst (λ (ws : List (List ℕ)). NameStdinOnce ws) same of.once)

      pub is-triple : (word : List ℕ) (n : ℕ) (third : Bor (List ℕ)) → a.third ≡ Some third → AreThreads (text_of a.threads) n → IsTripleOf words a word → ArePacketWords words word (first.now ∷ second.now ∷ third.now ∷ []) n a.keep_going
      is-triple word n third third_is threads_are of =
          let script = found-is a.first first of.0 first_is of.3.first in
          let other = found-is a.second second of.1 second_is of.3.second in
          let last = found-is a.third third of.2 third_is of.3.third in
          is-packet word n (of.0 ∷ of.1 ∷ of.2 ∷ []) (first.now ∷ second.now ∷ third.now ∷ []) (cc (script, other, last)) threads_are of.3

      -- The names of a `judge`: with a fourth, and without one.
      module _ (n : ℕ) (third : Bor (List ℕ)) (third_is : a.third ≡ Some third) (threads_are : AreThreads (text_of a.threads) n) where
        pub is-judge : a.fourth ≡ None → IsJudgeOf words a → ArePacketWords words (codes "judge") (first.now ∷ second.now ∷ third.now ∷ []) n a.keep_going
        is-judge none (inl of) = is-triple (codes "judge") n third third_is threads_are of
        is-judge none (inr of) = absurd (let there : text_of a.fourth ≡ Some of.3 = of.4.fourth in cc (ap text_of none, there))

        pub is-judge-capture : (fourth : Bor (List ℕ)) → a.fourth ≡ Some fourth → IsJudgeOf words a → ArePacketWords words (codes "judge") (first.now ∷ second.now ∷ third.now ∷ fourth.now ∷ []) n a.keep_going
        is-judge-capture fourth some (inl of) = absurd (let none : text_of a.fourth ≡ None = of.3.fourth in cc (ap text_of some, none))
        is-judge-capture fourth some (inr of) =
            let script = found-is a.first first of.0 first_is of.4.first in
            let other = found-is a.second second of.1 second_is of.4.second in
            let next = found-is a.third third of.2 third_is of.4.third in
            let last = found-is a.fourth fourth of.3 some of.4.fourth in
            is-packet (codes "judge") n (of.0 ∷ of.1 ∷ of.2 ∷ of.3 ∷ []) (first.now ∷ second.now ∷ third.now ∷ fourth.now ∷ []) (cc (script, other, next, last)) threads_are of.4

      pub is-count : (of : IsDrillOf words a) → (n : ℕ) × IsNumber 1 most_drill_elements second.now n
      is-count of = (of.elements, subst (λ (w : List ℕ). IsNumber 1 most_drill_elements w of.elements) (found-is a.second second of.count_word second_is of.second) of.elements_are)

      pub is-drill : (s k n : ℕ) → IsNumber 0 last_seed first.now s → IsNumber 1 most_drill_elements second.now k → AreThreads (text_of a.threads) n → IsDrillOf words a → IsCommand words (drill s k n)
      is-drill s k n seed_is count_is threads_are of = (
        text_of a.threads,
        of.seed_word,
        of.count_word,
        of.said,
        subst (λ (w : List ℕ). IsNumber 0 last_seed w s) (sym (found-is a.first first of.seed_word first_is of.first)) seed_is,
        subst (λ (w : List ℕ). IsNumber 1 most_drill_elements w k) (sym (found-is a.second second of.count_word second_is of.second)) count_is,
        threads_are,
      )

-- what a flag says of the text that was found
pub flag-is : (flag goes : Bool) (found : Option (List ℕ)) → (found ≡ Some (codes "true") → flag ≡ true) → (found ≡ Some (codes "false") → flag ≡ false) → found ≡ Some (cond goes (codes "true") (codes "false")) → flag ≡ goes
flag-is flag true found on off e = on e
flag-is flag false found on off e = off e
