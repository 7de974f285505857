use Rattle.std.proofs.Common.{◌≡◌, ◌++◌, map, Ok}
use Rattle.control_desk.proofs.run.all_done.Given as goal

-- the control threads so far, and those to come
abbrev pub invariant-loop-one : goal.invariant-loop-one
invariant-loop-one l = map Ok l.clerks.items ++ l.one-iterator.rest.items ≡ l.fn.done.items
