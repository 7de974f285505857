use Rattle.std.proofs.Common.{◌≡◌, List, length, get_or}
use Rattle.lookup_table.specs.declared.table.FieldTable.{FieldTable}
use Rattle.set_model.specs.declared.kind.Kind.{Kind}
use Rattle.set_model.specs.declared.element.Element.{Element}
use Rattle.set_tables.specs.Core.{row_of}
use Rattle.set_tables.specs.Search.{key_tests}
use Rattle.pipapo_image.specs.Index.Room.{HasRoomForRules}
use Rattle.pipapo_image.specs.Index.Standing.{AreFieldsOf, AreMapsOf}
use Rattle.pipapo_image.proofs.index.walk.Given as goal

abbrev pub invariant-fields : goal.invariant-fields
invariant-fields l = record {
  row : (kinds : List Kind) (es : List Element) → AreFieldsOf kinds es l.fields → AreMapsOf kinds es l.maps → l.row.bits ≡ row_of kinds es (key_tests l.key) l.f;
  len : (t : FieldTable) → length l.row.bits ≡ (get_or l.fields l.f t).rules;
  room : HasRoomForRules l.row;
  next_room : HasRoomForRules l.next;
}
