use Rattle.std.proofs.Common.{◌+◌}
use Rattle.set_model.specs.Control.{mode_of}
use Rattle.explain_answer.specs.Runs.{HasDone}
use Rattle.explain_answer.proofs.whole.do_rest.Given as goal

-- the sections so far are done
abbrev pub invariant-sections : goal.invariant-sections
invariant-sections g l = HasDone (mode_of l.keep_going) l.script (l.number + 1) l.trace
