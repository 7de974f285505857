use Rattle.std.proofs.Common.{ℕ, ◌<◌, List, sym, subst, length, get_or, None}
use Rattle.lookup_table.specs.declared.table.FieldTable.{FieldTable}
use Rattle.set_tables.specs.Search.{of_field}
use Rattle.pipapo_image.specs.Index.Grow.{IsReady, chosen}
use Rattle.pipapo_image.proofs.index.grow.put_columns.Goals as goal

pub add_columns-requires-clause-ready : goal.add_columns-requires-clause-ready
add_columns-requires-clause-ready c =
    let P : List FieldTable → Type 0 = λ z. (f : ℕ) (t : FieldTable) → f < length z → IsReady (of_field c.args.columns.now f) (chosen (get_or c.args.others.now f None) (get_or z f t)) in
    subst P (sym c.as_mut_slice.ensures.value) c.requires.ready
