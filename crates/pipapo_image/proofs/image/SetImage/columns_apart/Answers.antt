use Rattle.std.proofs.Common.{◌≡◌, sym, ◌∙◌, ap, subst, true, ◌==◌}
use Rattle.std.specs.List.{list_all}
use Rattle.pipapo_image.specs.Image.Deciding.{IsTest}
use Rattle.pipapo_image.proofs.AddLaws.{single-way}
use Rattle.pipapo_image.proofs.image.SetImage.columns_apart.Goals as goal

pub returns-then-is_single : goal.returns-then-is_single
returns-then-is_single c =
    let one : list_all (λ part. part.low == part.high) c.args.parts.now ≡ true = ap (list_all (λ part. part.low == part.high)) (sym c.as_slice.ensures) ∙ sym c.is_single.ensures ∙ c.if-is_single.true in
    subst (λ why. IsTest c.args.self.now c.args.parts.now why c.columns_within.result) (sym (single-way c.args.self.now c.args.parts.now c.args.now c.args.full one c.requires.start)) c.columns_within.ensures
