use Rattle.std.proofs.Common.{◌+◌, ◌≤◌, length, arith}
use Rattle.explain_answer.proofs.whole.do_rest.Goals as goal

pub returns : goal.returns
returns g c = (c.sections.number + 1, omega (arith, c.sections-test.false, c.len-number-end.ensures), c.sections.invariant)
