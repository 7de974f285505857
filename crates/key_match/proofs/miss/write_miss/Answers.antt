use Rattle.std.proofs.Common.{◌≡◌, ◌∙◌, ap, true, ◌++◌, Option, option_map}
use Rattle.std.proofs.lemmas.Result.{on_ok_weaker}
use Rattle.set_model.specs.declared.element.Element.{Element}
use Rattle.set_model.specs.Key.{parts_fit}
use Rattle.set_model.specs.SetState.{holds}
use Rattle.key_match.specs.Matched.{plain, expired_text}
use Rattle.key_match.proofs.ListLaws.{three-parts, fits-found}
use Rattle.key_match.proofs.miss.write_miss.Goals as goal

pub write_expired-requires : goal.write_expired-requires
write_expired-requires c =
    let a = c.args.asked.now in
    fits-found (λ (e : Element). parts_fit a.declared.now.kinds e.parts ≡ true) (λ (e : Element). holds e a.key.now) a.elements.now c.first_holder.result c.requires.parts c.first_holder.ensures

pub returns : goal.returns
returns c =
    on_ok_weaker c.write_near.result
    (λ last. three-parts c.args.out.now.items c.append_pieces.new.out.items c.write_expired.new.out.items _ _ _ _ c.in_ok-append_pieces.ensures.ok
    (c.in_ok-write_expired.ensures ∙ ap (λ (o : Option Element). c.append_pieces.new.out.items ++ expired_text (plain c.args.asked.now) o) c.first_holder.ensures) last)
    c.write_near.ensures
