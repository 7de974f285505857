-- What holds of a set's parts at every moment between calls.
pub mod Accepted
pub mod Among
pub mod Apart
pub mod Append
pub mod Deciding
pub mod Decision
pub mod Found
pub mod Insert
pub mod Remove
pub mod Steps
use Rattle.std.specs.Prelude.{◌≡◌, ℕ, ◌<◌, ◌≤◌, true, List, length, All}
use Rattle.set_model.specs.declared.kind.Kind.{Kind}
use Rattle.set_model.specs.declared.element.Element.{Element}
use Rattle.set_model.specs.Key.{parts_fit}
use Rattle.set_model.specs.SetState.{field_rules, rules_limit}
use Rattle.pipapo_image.specs.declared.index.Index.{Index}
use Rattle.pipapo_image.specs.Index.{IsIndexOf}

-- A set has 1 to 16 kinds. Every element's intervals fit them, and no field has too many rules. The
-- index is the tables of the elements.
pub record IsImage (kinds : List Kind) (elements : List Element) (index : Index) : Type 0 where
  pub some : 1 ≤ length kinds
  pub few_kinds : length kinds ≤ 16
  pub fit : All (λ e. parts_fit kinds e.parts ≡ true) elements
  pub tables : IsIndexOf kinds elements index
  pub few_rules : (f : ℕ) → f < length kinds → length (field_rules kinds f elements) ≤ rules_limit
