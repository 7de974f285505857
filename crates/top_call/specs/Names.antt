-- The names that a call asks its shelf for.
use Rattle.std.specs.Prelude.{◌≡◌, ℕ, List, [], ◌∷◌, ◌++◌}
use Rattle.set_model.specs.declared.script.SetDecl.{SetDecl}
use Rattle.pip_base.specs.Picks.{AsksOnce}
use Rattle.command_words.specs.declared.page.Page.{Page}
use Rattle.command_words.specs.Words.{Command, IsCommand, AsksFor, IsNoCommand}
use Rattle.input_files.specs.Inputs.{Input, inputs, names_of}
use Rattle.input_files.specs.Reads.{Shelved, AreRead, HasRead}

-- These names were asked for, and perhaps the next file's name after them.
abbrev pub AsksNext : List (List ℕ) → List (List ℕ) → List Input → Type 0
AsksNext asked names [] = asked ≡ names
AsksNext asked names (i ∷ later) = AsksOnce names asked i.name

-- The first files of a command were read whole, each of its form. Their names were asked for, and perhaps the next
-- file's.
pub record AsksUpTo (shelf : Shelved) (c : Command) : Type 0 where
  pub sets : List SetDecl
  pub earlier : List Input
  pub later : List Input
  pub in_order : inputs c ≡ earlier ++ later
  pub read : AreRead shelf sets earlier
  pub asked : AsksNext shelf.asked (names_of earlier) later

-- Names are asked for in the order of the command's words. A name is asked for only if every file before it was read
-- whole and accepted. None is asked for if the words are no command or ask for a page.
pub record AsksInOrder (words : List (List ℕ)) (shelf : Shelved) : Type 0 where
  pub no_command : IsNoCommand words → shelf.asked ≡ []
  pub no_file : (p : Page) → AsksFor words p → shelf.asked ≡ []
  pub in_turn : (c : Command) → IsCommand words c → AsksUpTo shelf c

-- All files of the command were asked for and read. They were read to their ends, if the shelf shows what is left of
-- them.
abbrev pub AsksForAll : List (List ℕ) → Shelved → Type 0
AsksForAll words shelf = (c : Command) → IsCommand words c → HasRead shelf c
