use Rattle.std.proofs.Common.{◌≡◌, ◌∙◌, sym, ap, subst, arith, true, List, Some, slice_get}
use Rattle.std.proofs.lemmas.List.Elements.{All-get_or}
use Rattle.std.proofs.lemmas.Option.{slice_get_within, get_or_from_slice_get}
use Rattle.set_model.specs.Key.{parts_fit}
use Rattle.set_model.specs.SetState.{State}
use Rattle.set_model.specs.declared.element.Element.{Element}
use Rattle.set_model.specs.declared.kind.Kind.{Kind}
use Rattle.set_space.proofs.GapLaws.{kinds_stay}
use Rattle.set_space.proofs.kept_set.KeptSet.element.Goals as goal

pub overflow_add-near : goal.overflow_add-near
overflow_add-near c = omega (arith, c.place_in_image-place.ensures.within, c.elements-elements.ensures.few)

pub returns-clause-fit : goal.returns-clause-fit
returns-clause-fit c =
    let image = c.self.inside.lazy.image in
    let place = c.place_in_image-place.result in
    let found : Element = c.at.result.now in
    let at : slice_get image.elements place ≡ Some found = subst (λ (es : List Element). slice_get es place ≡ Some found) c.elements-elements.ensures.same c.at.ensures in
    let here : parts_fit image.kinds found.parts ≡ true =
    subst (λ (e : Element). parts_fit image.kinds e.parts ≡ true) (get_or_from_slice_get image.elements place found found at)
    (All-get_or (λ (e : Element). parts_fit image.kinds e.parts ≡ true) image.elements place found (slice_get_within image.elements place found at) c.elements-elements.ensures.fit) in
    subst (λ (kinds : List Kind). parts_fit kinds found.parts ≡ true) (sym (kinds_stay c.self.inside.lazy.passed image) ∙ ap (λ (s : State). s.kinds) c.self.view_is) here
