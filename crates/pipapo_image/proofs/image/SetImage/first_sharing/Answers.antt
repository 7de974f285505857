use Rattle.std.proofs.Common.{refl, sym, ◌∙◌, ap, Option, Some, None, ◌≡◌, ℕ}
use Rattle.std.specs.Prelude.{option_map}
use Rattle.set_model.specs.declared.packet.Found.{Found}
use Rattle.set_model.specs.declared.element.Element.{Element}
use Rattle.set_model.specs.SetState.{State, element_at}
use Rattle.pipapo_image.specs.Image.Found.{found_at}
use Rattle.pipapo_image.proofs.AddLaws.{sharing-at}
use Rattle.pipapo_image.proofs.image.SetImage.first_sharing.Goals as goal

id-at : (s : State) (o : Option ℕ) → option_map (λ (f : Found). f.id) (found_at s o) ≡ option_map (λ (e : Element). e.id) (option_map (element_at s) o)
id-at s None = refl
id-at s (Some i) = refl

pub returns-clause-first : goal.returns-clause-first
returns-clause-first c =
    let s = c.args.self.now in
    let o = c.sharing_place.result in
    ap (option_map (λ (f : Found). f.id)) c.found_at.ensures ∙ id-at s o
    ∙ ap (option_map (λ (e : Element). e.id)) (sym (sharing-at s c.args.parts.now c.args.now o (sym c.sharing_place.ensures.value)))
