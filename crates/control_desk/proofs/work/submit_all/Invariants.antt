use Rattle.std.proofs.Common.{◌≤◌, take, drop}
use Rattle.control_desk.proofs.Working.{WentOn}
use Rattle.control_desk.proofs.work.submit_all.Given as goal

-- the steps so far are done, but for those of the open transaction
abbrev pub invariant-steps : goal.invariant-steps
invariant-steps g l = record {
  within : l.from ≤ l.i;
  went : WentOn l.keep_going (take l.i l.section) l.fn.clerk l.clerk (drop l.from (take l.i l.section));
}
