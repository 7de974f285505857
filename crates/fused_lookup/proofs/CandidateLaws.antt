-- What is skipped between two candidates.
use Rattle.std.proofs.Common.{◌≡◌, ℕ, ◌+◌, ◌-◌, ◌*◌, ◌/◌, ◌<◌, ◌≤◌, false, arith}
use Rattle.bit_rows.specs.Row.{bit}
use Rattle.lookup_table.specs.declared.table.FieldTable.{FieldTable}
use Rattle.lookup_table.specs.Candidates.{LeavesNone}
use Rattle.fused_lookup.specs.Sieve.{NoneHolds}

-- the words from a up to b of a page are no candidates
pub none-between : (t : FieldTable) (value p candidates a b : ℕ) → LeavesNone t value 64 p candidates → b ≤ 64 → ((k : ℕ) → a ≤ k → k < b → bit candidates k ≡ false) → NoneHolds t value (64 * p + a) (64 * p + b)
none-between t value p candidates a b leaves small unset = λ blocks stands r low high within.
    leaves blocks stands (r / 64 - 64 * p) r (omega arith) (unset (r / 64 - 64 * p) (omega arith) (omega arith)) within (omega arith)

-- the pages from a up to b below a top are no candidates
pub no-page-between : (t : FieldTable) (value q candidates a b : ℕ) → LeavesNone t value 4096 q candidates → b ≤ 64 → ((k : ℕ) → a ≤ k → k < b → bit candidates k ≡ false)
    → NoneHolds t value (64 * (64 * q + a)) (64 * (64 * q + b))
no-page-between t value q candidates a b leaves small unset = λ blocks stands r low high within.
    leaves blocks stands (r / 4096 - 64 * q) r (omega arith) (unset (r / 4096 - 64 * q) (omega arith) (omega arith)) within (omega arith)
