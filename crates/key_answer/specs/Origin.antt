-- The line of a script that added an element of a set.
use Rattle.std.specs.Prelude.{ℕ, ◌==◌, ◌||◌, not, if◌then◌else◌, List, [], ◌∷◌, ◌++◌, take, fold, Option, Some, None}
use Rattle.std.specs.Prelude.{slice_get, get_or}
use Rattle.set_model.specs.declared.element.NewElement.{NewElement}
use Rattle.set_model.specs.declared.script.SetDecl.{SetDecl}
use Rattle.set_model.specs.declared.script.Step.{Step}
use Rattle.set_model.specs.declared.script.Step.TheVariants.{Change, Flush, Commit, Abort}
use Rattle.set_model.specs.declared.script.Verb.{Verb}
use Rattle.set_model.specs.declared.script.Verb.TheVariants as verbs
use Rattle.set_model.specs.SetState.{State, Addition, New, Already, Renewed, Refused, add}
use Rattle.set_model.specs.Control.{Mode, Control, start, step}

-- the id of the new element, if an addition makes one
abbrev pub new_id : Addition → Option ℕ
new_id (New id) = Some id
new_id (Already id) = None
new_id (Renewed id) = None
new_id (Refused why) = None

-- The id of the new element, if a change of a set makes one. A renewal makes none, so a renewed element keeps its line.
abbrev pub made_in : Verb → NewElement → ℕ → Option State → Option ℕ
made_in verbs.Add e now None = None
made_in verbs.Add e now (Some s) = new_id (add s e now).0
made_in verbs.Create e now None = None
made_in verbs.Create e now (Some s) = new_id (add s e now).0
made_in verbs.Delete e now s = None
made_in verbs.Destroy e now s = None

-- The lines by the ids of elements, after an element was made. Ids from the new one on were given before in a
-- transaction that was taken back: their lines go.
abbrev pub with_line : List ℕ → ℕ → Option ℕ → List ℕ
with_line lines line None = lines
with_line lines line (Some id) = take id lines ++ line ∷ []

-- The lines after a step. Only a change of this set can add one, in a transaction that hasn't failed.
abbrev pub lines_after : ℕ → Control → List ℕ → Step → List ℕ
lines_after set c lines (Change line other verb e now) = if not (other == set) || c.failed then lines else with_line lines line (made_in verb e now (slice_get c.sets other))
lines_after set c lines (Flush line other now) = lines
lines_after set c lines (Commit now) = lines
lines_after set c lines Abort = lines

-- A control, and the lines of the additions to one set: at the place of an element's id is the line that made it.
pub record Traced : Type 0 where
  pub control : Control
  pub lines : List ℕ

abbrev pub traced_step : Mode → ℕ → Traced → Step → Traced
traced_step mode set t s = record { control = step mode t.control s; lines = lines_after set t.control t.lines s }

-- A section: its steps, one after another.
abbrev pub traced_section : Mode → ℕ → Traced → List Step → Traced
traced_section mode set t steps = fold (traced_step mode set) t steps

-- The lines of a set among those of all sets; none if there is no such set.
abbrev pub lines_of : List (List ℕ) → ℕ → List ℕ
lines_of lines set = get_or lines set []

-- Sections, one after another, from generation 0 on.
abbrev pub traced : Mode → ℕ → List SetDecl → List (List Step) → Traced
traced mode set schema sections = fold (traced_section mode set) (record { control = start schema; lines = [] }) sections
