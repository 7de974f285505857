use Rattle.std.proofs.Common.{◌≡◌, ◌-◌, ◌≤◌, List, length, take}
use Rattle.set_model.specs.declared.kind.Kind.{Kind}
use Rattle.set_model.specs.declared.element.Element.{Element}
use Rattle.set_model.specs.SetState.{field_rules}
use Rattle.set_tables.specs.Tables.{last_ends}
use Rattle.pipapo_image.proofs.index.place.rules_before.Given as goal

abbrev pub invariant-halves : goal.invariant-halves
invariant-halves l = record {
  within : l.high ≤ length l.ends.items;
  order : l.low ≤ l.high;
  rules : (kinds : List Kind) (es : List Element) → l.ends.items ≡ last_ends kinds es
      → (l.low ≤ length (field_rules kinds (length kinds - 1) (take l.place es))) × (length (field_rules kinds (length kinds - 1) (take l.place es)) ≤ l.high);
}

abbrev pub decreases-halves : goal.decreases-halves
decreases-halves l = l.high - l.low
