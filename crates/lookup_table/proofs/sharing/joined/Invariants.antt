use Rattle.std.proofs.Common.{◌≡◌, ◌+◌, ◌*◌, ℕ, slice_index}
use Rattle.bit_rows.specs.Row.{bit}
use Rattle.field_groups.specs.Groups.{some_from}
use Rattle.lookup_table.proofs.sharing.joined.Given as goal

abbrev pub invariant-lines : goal.invariant-lines
invariant-lines l = (k : ℕ) → bit l.some k ≡ some_from (λ j. bit (slice_index l.words (j * 8 + l.w)) k) l.first l.j
