use Rattle.std.proofs.Common.{◌≡◌, ℕ, ◌-◌, ◌<◌, ◌≤◌, false, length, take, get_or}
use Rattle.std.specs.List.{list_any, zip}
use Rattle.set_tables.specs.Rows.{reaches}
use Rattle.mapping_table.proofs.map.refill_spans.Given as goal

abbrev pub invariant-rules : goal.invariant-rules
invariant-rules l = record {
  within : l.from ≤ length l.spans.items;
  len : length l.next.bits ≡ length l.fn.next.bits;
  spare : l.next.spare ≡ l.fn.next.spare;
  bits : (r : ℕ) → r < length l.fn.next.bits → get_or l.next.bits r false ≡ list_any (reaches r) (take l.from (zip l.spans.items l.matched.bits));
}

abbrev pub decreases-rules : goal.decreases-rules
decreases-rules l = length l.spans.items - l.from
