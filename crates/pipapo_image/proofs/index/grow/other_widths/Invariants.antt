use Rattle.std.proofs.Common.{length, get_or}
use Rattle.lookup_table.specs.declared.table.FieldTable.{FieldTable}
use Rattle.set_tables.specs.Search.{of_field}
use Rattle.pipapo_image.specs.Index.Built.{Built}
use Rattle.pipapo_image.specs.Index.Grow.{IsOther}
use Rattle.pipapo_image.proofs.index.grow.other_widths.Given as goal

abbrev pub invariant-fields : goal.invariant-fields
invariant-fields l = Built (λ f o. (t : FieldTable) → IsOther (length (of_field l.columns f)) (get_or l.fields f t) o) l.others.items l.f
