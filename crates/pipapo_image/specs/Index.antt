-- An index: its shape, and the list of elements that its tables represent.
pub mod Built
pub mod Changes
pub mod Copied
pub mod Grow
pub mod Narrow
pub mod Room
pub mod Runs
pub mod Sharing
pub mod Shrink
pub mod Standing
pub mod Walk
use Rattle.std.specs.Prelude.{◌≡◌, ◌-◌, List, length, get_or}
use Rattle.lookup_table.specs.declared.table.FieldTable.{FieldTable}
use Rattle.set_model.specs.declared.kind.Kind.{Kind}
use Rattle.set_model.specs.declared.element.Element.{Element}
use Rattle.set_tables.specs.Tables.{last_ends}
use Rattle.pipapo_image.specs.declared.index.Index.{Index}
use Rattle.pipapo_image.specs.Index.Walk.{IsWalk}
use Rattle.pipapo_image.specs.Index.Standing.{AreFieldsOf, AreMapsOf}

-- An index has at least one field, and one mapping fewer than fields. Each span is within the next
-- field's rules. Each rule of the last field has one end.
pub record IsShapedIndex (index : Index) : Type 0 where
  pub walk : IsWalk index.fields index.maps
  pub one_end_each : (t : FieldTable) → length index.ends.items ≡ (get_or index.fields (length index.fields - 1) t).rules

-- The index is the tables of the elements. Each field has their rules at the right width, and each
-- rule has its span of the next field. The last field's rules have their ends.
pub record IsIndexOf (kinds : List Kind) (es : List Element) (index : Index) : Type 0 where
  pub fields : AreFieldsOf kinds es index.fields
  pub maps : AreMapsOf kinds es index.maps
  pub ends : index.ends.items ≡ last_ends kinds es
