use Rattle.std.proofs.Common.{◌≡◌, ◌++◌, map, Ok}
use Rattle.packet_pool.proofs.worker.all_done.Given as goal

-- the workers so far, and those to come
abbrev pub invariant-loop-one : goal.invariant-loop-one
invariant-loop-one l = map Ok l.workers.items ++ l.one-iterator.rest.items ≡ l.fn.done.items
