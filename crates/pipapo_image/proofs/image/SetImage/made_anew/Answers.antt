use Rattle.std.proofs.Common.{◌≡◌, ◌<◌, sym, ◌∙◌, ap, subst, length, slice_get, Some}
use Rattle.std.proofs.lemmas.Option.{get_or_from_slice_get}
use Rattle.set_model.specs.Expiry.{live}
use Rattle.set_model.specs.SetState.{crowded_field}
use Rattle.pipapo_image.specs.Image.Append.{with_last}
use Rattle.pipapo_image.specs.Image.{IsImage}
use Rattle.pipapo_image.proofs.Purging.{room-kept, not-expired, is-gone, one-kept, one-gone}
use Rattle.pipapo_image.proofs.image.SetImage.made_anew.Goals.{then-not-expired+in_ok-append_copy, else-not-expired}
use Rattle.pipapo_image.proofs.image.SetImage.made_anew.Goals as goal

pub append_copy-requires-clause-few : goal.append_copy-requires-clause-few
append_copy-requires-clause-few c =
    let s = c.args.self.now in
    let e = c.at-element.result.now in
    let list = ap (λ z. z.elements) c.self.view_is in
    let image : IsImage s.kinds s.elements c.self.inside.index = subst (λ z. IsImage z.kinds z.elements c.self.inside.index) c.self.view_is c.self.invariant in
    let h : c.elements.i < length s.elements = subst (λ z. c.elements.i < length z) list (subst (λ n. c.elements.i < n) c.len-i-end.ensures c.elements-test.true) in
    let found : slice_get s.elements c.elements.i ≡ Some e = subst (λ z. slice_get z c.elements.i ≡ Some e) list c.at-element.ensures in
    let at = sym (get_or_from_slice_get s.elements c.elements.i e e found) in
    ap (λ z. crowded_field z e.parts) c.elements.invariant ∙ room-kept s c.self.inside.index c.args.now c.elements.i e image h at

pub elements-preserved : goal.elements-preserved
elements-preserved c =
    let s = c.args.self.now in
    let e = c.at-element.result.now in
    let list = ap (λ z. z.elements) c.self.view_is in
    let h : c.elements.i < length s.elements = subst (λ z. c.elements.i < length z) list (subst (λ n. c.elements.i < n) c.len-i-end.ensures c.elements-test.true) in
    let found : slice_get s.elements c.elements.i ≡ Some e = subst (λ z. slice_get z c.elements.i ≡ Some e) list c.at-element.ensures in
    let at = sym (get_or_from_slice_get s.elements c.elements.i e e found) in
    elim c.if-not-expired.branch [
      | then-not-expired+in_ok-append_copy w ↦
          w.kept-is ∙ w.in_ok-append_copy.ensures.ok ∙ ap (λ z. with_last z e) c.elements.invariant
          ∙ one-kept s c.args.now c.elements.i e h at (not-expired (live e c.args.now) (sym w.if-not-expired.true ∙ c.expired.ensures))
      | else-not-expired w ↦
          w.kept-is ∙ c.elements.invariant ∙ one-gone s c.args.now c.elements.i e h at (is-gone (live e c.args.now) (sym w.if-not-expired.false ∙ c.expired.ensures))
    ]
