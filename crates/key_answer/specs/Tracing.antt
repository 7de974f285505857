-- How a run that notes lines corresponds to the definition.
use Rattle.std.specs.Prelude.{◌≡◌, ◌==◌, ◌<◌, ℕ, Bool, true, false, List, ◌∷◌, [], length, Option, Some, None, Result, Ok, Err}
use Rattle.set_model.specs.declared.element.NewElement.{NewElement}
use Rattle.set_model.specs.declared.report.Event.{Event}
use Rattle.set_model.specs.declared.report.Why.{Why}
use Rattle.set_model.specs.declared.script.Step.{Step}
use Rattle.set_model.specs.declared.script.Verb.{Verb}
use Rattle.set_model.specs.declared.script.Verb.TheVariants as verbs
use Rattle.set_model.specs.SetState.{State}
use Rattle.set_model.specs.Control.{Mode, Control, section, changed_set}
use Rattle.pipapo_image.specs.declared.answers.ChangeError.{ChangeError}
use Rattle.pipapo_image.specs.declared.answers.ChangeError.TheVariants.{Refused, Memory}
use Rattle.packet_pool.specs.Running.{Run, GoesOn, StandsAt, HasCome}
use Rattle.key_answer.specs.Origin.{made_in, with_line, lines_of, traced_section}

-- the verb of an addition
abbrev pub adding : Bool → Verb
adding true = verbs.Create
adding false = verbs.Add

-- An addition that should end so: the id of the new element is this one, or it is refused for this cause.
abbrev pub Makes : Option Why × State → Option ℕ → Result (Option ℕ) ChangeError → State → Type 0
Makes expected id (Ok made) t = HasCome expected None t × (made ≡ id)
Makes expected id (Err (Refused why)) t = HasCome expected (Some why) t × (id ≡ None)
Makes expected id (Err Memory) t = Unit {0}

-- the answer to a change that may make an element
abbrev pub HasMade : Verb → NewElement → ℕ → Result (Option ℕ) ChangeError → State → State → Type 0
HasMade verb e now r s t = Makes (changed_set verb s e now) (made_in verb e now (Some s)) r t

-- The line of an addition to a set was noted if it made an element. The lines of the other sets stay.
pub record IsNoted (set line : ℕ) (made : Option ℕ) (before_lines lines : List (List ℕ)) : Type 0 where
  pub one_each : length lines ≡ length before_lines
  pub own : set < length before_lines → lines_of lines set ≡ with_line (lines_of before_lines set) line made
  pub others : (other : ℕ) → (set == other) ≡ false → lines_of lines other ≡ lines_of before_lines other

-- Steps were done, and the lines of the additions to each set noted: what the run and the lines were, and are now.
pub record Traces (mode : Mode) (steps : List Step) (old new : Run) (before_lines lines : List (List ℕ)) : Type 0 where
  pub goes_on : GoesOn (λ c. section mode c steps) old new
  pub one_each : length lines ≡ length before_lines
  pub lines_are : (before : List Event) (c : Control) → StandsAt before c old → (set : ℕ) → set < length before_lines
      → lines_of lines set ≡ (traced_section mode set (record { control = c; lines = lines_of before_lines set }) steps).lines
