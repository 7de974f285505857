-- How far a command's files were read.
use Rattle.std.specs.Prelude.{◌≡◌, ◌≢◌, ℕ, List, [], ◌∷◌, ◌++◌, length, Option, All}
use Rattle.std.specs.List.{AllPairs}
use Rattle.std.specs.Io.KnownBytes.{IsAtEnd}
use Rattle.set_model.specs.declared.script.SetDecl.{SetDecl}
use Rattle.pip_base.specs.Picks.{IsPickOf}
use Rattle.command_words.specs.Words.{Command}
use Rattle.input_files.specs.declared.fault.FileFault.{FileFault}
use Rattle.input_files.specs.Inputs.{Input, inputs, names_of, IsOf, ReadsAs, IsFileCause}

-- What a shelf shows of a call: the bytes under names, if they are known; the names that were asked
-- for; its counts of faults and the numbers of its files, before and after; and what these files have
-- left.
pub record Shelved : Type 1 where
  pub told : List ℕ → Option (List ℕ)
  pub asked : List (List ℕ)
  pub faults_before : ℕ
  pub faults_now : ℕ
  pub picked_before : ℕ → Type 0
  pub picked_now : ℕ → Type 0
  pub left : ℕ → Option (List ℕ)

-- Each of these files is of its form, for a script that declares these sets.
abbrev pub AreOf : (List ℕ → Option (List ℕ)) → List SetDecl → List Input → Type 0
AreOf told sets [] = Unit {0}
AreOf told sets (i ∷ others) = ReadsAs told i.name (IsOf i.form sets) × AreOf told sets others

-- So many files were picked in this call, each under a new number of its own. Nothing is left of any,
-- if the shelf knows what is left.
pub record AreReadWhole (old new : ℕ → Type 0) (left : ℕ → Option (List ℕ)) (count : ℕ) : Type 0 where
  pub files : List ℕ
  pub one_each : length files ≡ count
  pub apart : AllPairs (λ a b. a ≢ b) files
  pub picked : All (IsPickOf old new) files
  pub at_end : All (λ file. IsAtEnd (left file)) files

-- These files were read, to their ends if the shelf knows what is left of them, and each is of its
-- form.
pub record AreRead (shelf : Shelved) (sets : List SetDecl) (files : List Input) : Type 0 where
  pub are_of : AreOf shelf.told sets files
  pub whole : AreReadWhole shelf.picked_before shelf.picked_now shelf.left (length files)

-- A command's files were all read. No other name was asked for, and no fault was counted.
pub record HasRead (shelf : Shelved) (c : Command) : Type 0 where
  pub sets : List SetDecl
  pub all : AreRead shelf sets (inputs c)
  pub asked : shelf.asked ≡ names_of (inputs c)
  pub quiet : shelf.faults_now ≡ shelf.faults_before

-- A command's files were read up to one that failed for this fault.
pub record StopsAt (shelf : Shelved) (c : Command) (fault : FileFault) : Type 0 where
  pub sets : List SetDecl
  pub earlier : List Input
  pub input : Input
  pub later : List Input
  pub in_order : inputs c ≡ earlier ++ input ∷ later
  pub read_before : AreRead shelf sets earlier
  pub cause : IsFileCause shelf.told sets (names_of earlier) input shelf.asked shelf.faults_before shelf.faults_now fault
