-- A run after some sections of a script, with the lines of the additions.
use Rattle.std.specs.Prelude.{◌≡◌, ◌<◌, ℕ, List, [], length, false}
use Rattle.set_model.specs.declared.script.SetDecl.{SetDecl}
use Rattle.set_model.specs.declared.script.Step.{Step}
use Rattle.set_model.specs.Control.{Mode, history}
use Rattle.packet_pool.specs.Running.{run, StandsAt}
use Rattle.key_answer.specs.declared.trace.Trace.{Trace}
use Rattle.key_answer.specs.Origin.{lines_of, traced}

-- A run has done these sections of a script with these declared sets. It has the state and the events of the definition's
-- control, and the lines of each set.
pub record IsTraceOf (mode : Mode) (schema : List SetDecl) (sections : List (List Step)) (t : Trace) : Type 0 where
  pub stands : StandsAt [] (history mode schema sections) (run t.control false t.events)
  pub one_each : length t.lines ≡ length schema
  pub lines_are : (set : ℕ) → set < length schema → lines_of t.lines set ≡ (traced mode set schema sections).lines
  pub schema_is : t.control.schema ≡ schema
