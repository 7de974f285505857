use Rattle.std.proofs.Common.{◌≡◌, ◌≤◌, ◌-◌, List, length}
use Rattle.set_model.specs.declared.kind.Kind.{Kind}
use Rattle.set_model.specs.declared.element.Element.{Element}
use Rattle.set_tables.specs.Rows.{refilled}
use Rattle.set_tables.specs.Core.{row_of}
use Rattle.set_tables.specs.Tables.{field_spans}
use Rattle.set_tables.specs.Search.{key_tests}
use Rattle.fused_lookup.specs.Words.{small_row}
use Rattle.pipapo_image.specs.Index.Standing.{AreFieldsOf, AreMapsOf}
use Rattle.pipapo_image.proofs.index.fused.small_walk.Given as goal

abbrev pub invariant-fields : goal.invariant-fields
invariant-fields l = record {
  some : 1 ≤ l.f;
  reached : (kinds : List Kind) (es : List Element) → AreFieldsOf kinds es l.fields → AreMapsOf kinds es l.maps
      → small_row l.left ≡ refilled (field_spans kinds (l.f - 1) es) (row_of kinds es (key_tests l.key) (l.f - 1)) (length (small_row l.left));
}
