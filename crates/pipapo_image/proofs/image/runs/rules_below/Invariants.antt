use Rattle.std.proofs.Common.{◌≡◌, ◌-◌, ◌≤◌, ℕ, suc, List, length, take}
use Rattle.std.specs.Prelude.{All}
use Rattle.set_model.specs.declared.kind.Kind.{Kind}
use Rattle.set_model.specs.declared.element.Element.{Element}
use Rattle.set_model.specs.SetState.{field_rules}
use Rattle.set_tables.specs.Tables.{split, field_spans}
use Rattle.pipapo_image.proofs.image.runs.rules_below.Given as goal

abbrev pub invariant-halves : goal.invariant-halves
invariant-halves l = record {
  within : l.high ≤ length l.map.items;
  order : l.low ≤ l.high;
  rules : (kinds : List Kind) (es : List Element) (f place : ℕ) → l.map.items ≡ field_spans kinds f es → All (λ e. 1 ≤ length (split kinds (suc f) e)) es
      → l.first ≡ length (field_rules kinds (suc f) (take place es))
      → (l.low ≤ length (field_rules kinds f (take place es))) × (length (field_rules kinds f (take place es)) ≤ l.high);
}

abbrev pub decreases-halves : goal.decreases-halves
decreases-halves l = l.high - l.low
