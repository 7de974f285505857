-- Values that are added to a list one after another.
use Rattle.std.proofs.Common.{◌≡◌, ◌∙◌, ap, sym, ℕ, ◌+◌, List, [], ◌∷◌, ◌++◌, map, take, filter, slice_get, Some}
use Rattle.std.proofs.lemmas.List.{map-append}
use Rattle.serde_json.specs.Data.{Data}
use Rattle.serde_json.specs.View.{view}
use Rattle.serde_json.specs.declared.value.Value.{Value}
use Rattle.std.proofs.lemmas.List.Elements.{filter-append}
use Rattle.set_model.specs.declared.element.Element.{Element}
use Rattle.set_model.specs.declared.script.SetDecl.{SetDecl}
use Rattle.list_json.specs.JsonSets.{lasts, element_data, elements_data}
use Rattle.element_text.proofs.JoinLaws.{take-get}

-- one value more
pub one-more : (vs new : List Value) (v : Value) (ds : List Data) (d : Data) → map view vs ≡ ds → new ≡ vs ++ v ∷ [] → view v ≡ d → map view new ≡ ds ++ d ∷ []
one-more vs new v ds d so_far pushed is = ap (map view) pushed ∙ map-append view vs (v ∷ []) ∙ (λ j. so_far j ++ is j ∷ [])

-- the value of one item more
pub item-more : {X : Type 0} (f : X → Data) (xs : List X) (i : ℕ) (x : X) (vs new : List Value) (v : Value) → slice_get xs i ≡ Some x → map view vs ≡ map f (take i xs) → new ≡ vs ++ v ∷ []
    → view v ≡ f x → map view new ≡ map f (take (i + 1) xs)
item-more f xs i x vs new v at so_far pushed is =
    one-more vs new v (map f (take i xs)) (f x) so_far pushed is ∙ sym (map-append f (take i xs) (x ∷ [])) ∙ ap (map f) (sym (take-get xs i x at))

-- the elements of one more
pub elements-more : (d : SetDecl) (now : ℕ) (es : List Element) (i : ℕ) (e : Element) → slice_get es i ≡ Some e
    → elements_data d now (take i es) ++ elements_data d now (e ∷ []) ≡ elements_data d now (take (i + 1) es)
elements-more d now es i e at =
    sym (map-append (element_data d now) (filter (lasts now) (take i es)) (filter (lasts now) (e ∷ [])))
    ∙ ap (map (element_data d now)) (sym (filter-append (lasts now) (take i es) (e ∷ [])) ∙ ap (filter (lasts now)) (sym (take-get es i e at)))
