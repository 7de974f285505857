-- When tables represent a list of elements.
use Rattle.std.specs.Prelude.{◌≡◌, ℕ, ◌+◌, ◌<◌, List, length, get_or}
use Rattle.lookup_table.specs.declared.table.FieldTable.{FieldTable}
use Rattle.lookup_table.specs.Rules.{Stands}
use Rattle.lookup_table.specs.Width.{width_of}
use Rattle.mapping_table.specs.Spared.{Spared}
use Rattle.set_model.specs.declared.block.Block.{Block}
use Rattle.set_model.specs.declared.kind.Kind.{Kind}
use Rattle.set_model.specs.declared.element.Element.{Element}
use Rattle.set_model.specs.Kind.{bits_of}
use Rattle.set_model.specs.SetState.{field_rules}
use Rattle.set_tables.specs.declared.Span.{Span}
use Rattle.set_tables.specs.Tables.{field_spans}

-- A field's table has the bits of the field's kind and the width for so many rules. It represents
-- these rules.
pub record IsTableOf (kind : Kind) (rules : List Block) (t : FieldTable) : Type 0 where
  pub bits : t.bits ≡ bits_of kind
  pub width : t.width ≡ width_of (bits_of kind) (length rules)
  pub stands : Stands t rules

-- each field's table represents the elements' rules
pub record AreFieldsOf (kinds : List Kind) (es : List Element) (fields : List FieldTable) : Type 0 where
  pub one_each : length fields ≡ length kinds
  pub each : (f : ℕ) (k : Kind) (t : FieldTable) → f < length kinds → IsTableOf (get_or kinds f k) (field_rules kinds f es) (get_or fields f t)

-- each field's mapping has the elements' spans
pub record AreMapsOf (kinds : List Kind) (es : List Element) (maps : List (Spared Span)) : Type 0 where
  pub one_fewer : length maps + 1 ≡ length kinds
  pub each : (f : ℕ) (m : Spared Span) → f < length maps → (get_or maps f m).items ≡ field_spans kinds f es
