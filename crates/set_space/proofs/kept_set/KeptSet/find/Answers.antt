use Rattle.std.proofs.Common.{◌≡◌, ◌-◌, ◌∙◌, ap, Some, arith}
use Rattle.set_model.specs.declared.packet.Found.{Found}
use Rattle.pipapo_image.specs.Image.Found.{found}
use Rattle.set_space.specs.KeptSet.{gaps_before}
use Rattle.set_space.proofs.GapLaws.{found_some, found_none, found_within}
use Rattle.set_space.proofs.kept_set.KeptSet.find.Goals as goal

pub returns-in-None : goal.returns-in-None
returns-in-None c =
    let lazy = c.self.inside.lazy in
    let key = c.args.key.now in
    found_none lazy.passed lazy.image key c.args.now (c.in-None.ensures ∙ ap (found lazy.image key) c.moment.ensures) ∙ ap (λ s. found s key c.args.now) c.self.view_is

pub returns-in-Some : goal.returns-in-Some
returns-in-Some c =
    let lazy = c.self.inside.lazy in
    let key = c.args.key.now in
    let f : Found = c.in-Some.found in
    let of_image = c.in-Some.ensures ∙ ap (found lazy.image key) c.moment.ensures in
    let gaps = c.self.invariant in
    let before : c.gaps_before.result ≡ gaps_before lazy.passed lazy.image f.place = c.gaps_before.ensures lazy.passed lazy.image gaps (omega (arith, found_within lazy.image key c.moment.result f c.in-Some.ensures)) in
    ap (λ n. Some (record { place = f.place - n; id = f.id })) before ∙ found_some lazy.passed lazy.image key c.args.now f of_image ∙ ap (λ s. found s key c.args.now) c.self.view_is
