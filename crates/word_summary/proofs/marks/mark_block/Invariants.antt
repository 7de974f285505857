use Rattle.std.proofs.Common.{◌≡◌, ℕ, ◌+◌, ◌*◌, ◌<◌, true}
use Rattle.std.specs.Prelude.{slice_index}
use Rattle.bit_rows.specs.Row.{bit}
use Rattle.field_groups.specs.Groups.{agrees}
use Rattle.word_summary.specs.Marks.{ClearsNone}
use Rattle.word_summary.proofs.marks.mark_block.Given as goal

abbrev pub invariant-groups : goal.invariant-groups
invariant-groups l = record {
  own : l.page.own ≡ true;
  kept : ClearsNone l.initial.page.items l.page.items;
  set : (g v : ℕ) → g < l.g → v < 256 → agrees 8 l.bits l.block g v ≡ true → bit (slice_index l.page.items (g * 256 + v)) l.k ≡ true;
}
