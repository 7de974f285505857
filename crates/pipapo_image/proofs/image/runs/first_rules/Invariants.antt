use Rattle.std.proofs.Common.{◌≡◌, ◌≤◌, true, List, length, take}
use Rattle.std.specs.Prelude.{All}
use Rattle.set_model.specs.declared.kind.Kind.{Kind}
use Rattle.set_model.specs.declared.element.Element.{Element}
use Rattle.set_model.specs.Key.{parts_fit}
use Rattle.set_model.specs.SetState.{field_rules}
use Rattle.set_tables.specs.Tables.{last_ends}
use Rattle.pipapo_image.specs.Index.Standing.{AreMapsOf}
use Rattle.pipapo_image.proofs.image.runs.first_rules.Given as goal

abbrev pub invariant-maps : goal.invariant-maps
invariant-maps l = record {
  within : l.f ≤ length l.maps;
  rules : (kinds : List Kind) (es : List Element) → AreMapsOf kinds es l.maps → l.ends.items ≡ last_ends kinds es → All (λ e. parts_fit kinds e.parts ≡ true) es
      → l.first ≡ length (field_rules kinds l.f (take l.place es));
}

abbrev pub decreases-maps : goal.decreases-maps
decreases-maps l = l.f
