-- How a run of a script corresponds to the definition.
use Rattle.std.specs.Prelude.{◌≡◌, ◌+◌, ℕ, List, take}
use Rattle.set_model.specs.declared.script.SetDecl.{SetDecl}
use Rattle.set_model.specs.declared.script.Script.{Script}
use Rattle.set_model.specs.Control.{Mode}
use Rattle.key_answer.specs.declared.trace.Trace.{Trace}
use Rattle.key_answer.specs.Origin.{lines_of}
use Rattle.key_answer.specs.Sections.{IsTraceOf}
use Rattle.explain_answer.specs.Explained.{After}

-- a run's sets, its last generation and the lines of its additions
abbrev pub after_run : Trace → After
after_run t = record { schema = t.control.schema; generation = t.control.work.base; lines = lines_of t.lines }

-- A run has done the first sections of a script, so many.
abbrev pub HasDone : Mode → Script → ℕ → Trace → Type 0
HasDone mode s count t = IsTraceOf mode s.schema (take count s.sections) t
