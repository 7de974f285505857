use Rattle.std.proofs.Common.{ℕ, ◌<◌, length, get_or}
use Rattle.lookup_table.specs.declared.table.FieldTable.{FieldTable}
use Rattle.set_tables.specs.Search.{of_field}
use Rattle.pipapo_image.specs.Index.Built.{EachChanged}
use Rattle.pipapo_image.specs.Index.Grow.{IsKept, HasSpare}
use Rattle.pipapo_image.proofs.index.grow.reserve_fields.Given as goal

abbrev pub invariant-fields : goal.invariant-fields
invariant-fields l = record {
  kept : EachChanged IsKept l.initial.fields l.fields;
  room : (k : ℕ) (t : FieldTable) → k < l.f → HasSpare (length (of_field l.columns k)) (get_or l.fields k t);
}
