use Rattle.std.proofs.Common.{◌≡◌, ℕ, ◌-◌, ◌<◌, ◌≤◌, false, length, get_or}
use Rattle.std.specs.List.{zip}
use Rattle.set_tables.specs.Rows.{is_led}
use Rattle.mapping_table.proofs.LedLaws.{no_end}
use Rattle.mapping_table.proofs.ends.first_led.Given as goal

abbrev pub invariant-rules : goal.invariant-rules
invariant-rules l = record {
  within : l.from ≤ length l.ends.items;
  none : (k : ℕ) → k < l.from → is_led l.now (get_or (zip l.ends.items l.matched.bits) k no_end) ≡ false;
}

abbrev pub decreases-rules : goal.decreases-rules
decreases-rules l = length l.ends.items - l.from
