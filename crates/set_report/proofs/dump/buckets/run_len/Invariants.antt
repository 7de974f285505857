use Rattle.std.proofs.Common.{◌≡◌, ℕ, ◌+◌, ◌<◌}
use Rattle.set_report.specs.DumpBuckets.{bits_at}
use Rattle.set_report.proofs.dump.buckets.run_len.Given as goal

-- the buckets so far have the bitmap of the first one
abbrev pub invariant-loop-n : goal.invariant-loop-n
invariant-loop-n l = (k : ℕ) → k < l.n → bits_at l.rows (l.from + k) ≡ bits_at l.rows l.from
