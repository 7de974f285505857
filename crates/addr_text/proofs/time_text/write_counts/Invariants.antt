use Rattle.std.proofs.Common.{◌≡◌, ◌++◌, length, take, flat_map}
use Rattle.addr_text.specs.Written.{count_text, count_views}
use Rattle.addr_text.proofs.time_text.write_counts.Given as goal

abbrev pub invariant-loop-count : goal.invariant-loop-count
invariant-loop-count l = (l.out.items ≡ l.fn.out.items ++ flat_map count_text (count_views (take l.count-index l.counts))) × (l.len ≡ length l.fn.out.items)
