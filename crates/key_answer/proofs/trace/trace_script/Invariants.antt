use Rattle.std.proofs.Common.{take}
use Rattle.set_model.specs.Control.{mode_of}
use Rattle.key_answer.specs.Sections.{IsTraceOf}
use Rattle.key_answer.proofs.trace.trace_script.Given as goal

-- the sections so far are done
abbrev pub invariant-sections : goal.invariant-sections
invariant-sections g l = IsTraceOf (mode_of l.keep_going) l.script.schema (take l.steps-index l.steps-items) l.trace
