-- Each element of an image has a rule in each field, so an image has few elements.
use Rattle.std.proofs.Common.{◌<◌, ◌≤◌, List, [], ◌∷◌, length, arith, length-append}
use Rattle.std.specs.Prelude.{All}
use Rattle.std.specs.List.{flat_map}
use Rattle.std.proofs.lemmas.List.Elements.{All-head, All-tail}
use Rattle.set_model.specs.declared.kind.Kind.{Kind}
use Rattle.set_model.specs.declared.block.Block.{Block}
use Rattle.set_model.specs.declared.element.Element.{Element}
use Rattle.set_model.specs.SetState.{rules_limit}
use Rattle.set_tables.specs.Tables.{split}
use Rattle.pipapo_image.specs.declared.index.Index.{Index}
use Rattle.pipapo_image.specs.Image.{IsImage}
use Rattle.pipapo_image.proofs.RunLaws.{all-some}

one-each : (here : Element → List Block) (es : List Element) → All (λ e. 1 ≤ length (here e)) es → length es ≤ length (flat_map here es)
one-each here [] h = omega arith
one-each here (e ∷ es) h =
    let P : Element → Type 0 = λ z. 1 ≤ length (here z) in
    let first = All-head P e es h in
    let rest = one-each here es (All-tail P e es h) in
    let all = length-append (here e) (flat_map here es) in
    omega (arith, first, rest, all)

-- An image has no more elements than a field may have rules.
pub few_elements : (kinds : List Kind) (es : List Element) (index : Index) → IsImage kinds es index → length es ≤ rules_limit
few_elements kinds es index image =
    let first : 0 < length kinds = omega (arith, image.some) in
    let some = one-each (split kinds 0) es (all-some kinds es 0 image.fit first) in
    omega (arith, some, image.few_rules 0 first)
