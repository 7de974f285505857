-- The numbers in the pages of help: they are the bounds of the reader of the words.
use Rattle.std.specs.Prelude.{◌≡◌, ℕ, List, ◌++◌, codes, decimal, length, take, drop}
use Rattle.command_words.specs.declared.shape.Verb.TheVariants as verbs
use Rattle.command_words.specs.declared.page.Page.{Page}
use Rattle.command_words.specs.declared.page.Page.TheVariants as pages
use Rattle.command_words.specs.GetWords.{last_moment}
use Rattle.command_words.specs.Words.{last_seed, most_drill_elements, most_threads}

-- A text has these bytes in it, from a place on.
pub record Says (part text : List ℕ) : Type 0 where
  pub at : ℕ
  pub here : take (length part) (drop at text) ≡ part

-- the bounds of the number of packet threads, as help says them
abbrev pub threads_bounds : List ℕ
threads_bounds = codes ": 1 to " ++ decimal most_threads ++ codes ", and else 1\n"

-- the bounds of a drill's elements and seed
abbrev pub elements_bounds : List ℕ
elements_bounds = codes "COUNT elements (1 to " ++ decimal most_drill_elements ++ codes ")"

abbrev pub seed_bounds : List ℕ
seed_bounds = codes "SEED (0 to " ++ decimal last_seed ++ codes ")"

-- the bound of a moment
abbrev pub moment_bound : List ℕ
moment_bound = codes "the moment of the lookup in milliseconds, at most " ++ decimal last_moment ++ codes ";"

-- A page says the bounds of each number that its command takes.
abbrev pub SaysBounds : Page → List ℕ → Type 0
SaysBounds pages.Program text = Says threads_bounds text
SaysBounds (pages.Command verbs.Run) text = Says threads_bounds text
SaysBounds (pages.Command verbs.Judge) text = Says threads_bounds text
SaysBounds (pages.Command verbs.Capture) text = Says threads_bounds text
SaysBounds (pages.Command verbs.Drill) text = Says threads_bounds text × Says elements_bounds text × Says seed_bounds text
SaysBounds (pages.Command verbs.Get) text = Says moment_bound text
SaysBounds (pages.Command verbs.List) text = Unit {0}
SaysBounds (pages.Command verbs.Dump) text = Unit {0}
SaysBounds (pages.Command verbs.Stat) text = Unit {0}
SaysBounds (pages.Command verbs.Desk) text = Unit {0}
SaysBounds (pages.Command verbs.Compare) text = Unit {0}
SaysBounds (pages.Command verbs.Explain) text = Unit {0}
SaysBounds (pages.Command verbs.Sets) text = Unit {0}
SaysBounds pages.Version text = Unit {0}
