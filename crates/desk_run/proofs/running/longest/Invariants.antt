use Rattle.std.proofs.Common.{◌≤◌, All, length, take}
use Rattle.desk_run.proofs.running.longest.Given as goal

-- none of the sections so far is longer
abbrev pub invariant-loop-steps : goal.invariant-loop-steps
invariant-loop-steps l = All (λ steps. length steps ≤ l.most) (take l.steps-index l.steps-items)
