use Rattle.std.proofs.Common.{◌≡◌, suc, ◌-◌, ◌<◌, ◌∙◌, ap, arith, length, take}
use Rattle.set_model.specs.SetState.{field_rules}
use Rattle.pipapo_image.proofs.Items.{map-spans}
use Rattle.pipapo_image.proofs.RunLaws.{all-some}
use Rattle.pipapo_image.proofs.image.runs.first_rules.Goals as goal

pub maps-preserved : goal.maps-preserved
maps-preserved c =
    let h : c.maps.f - 1 < length c.args.maps.now = omega (arith, c.maps.invariant.within, c.maps-test.true) in
    let back : c.maps.f ≡ suc (c.maps.f - 1) = omega (arith, c.maps-test.true) in
    record {
      within = omega (arith, c.maps.invariant.within);
      rules = λ kinds es maps ends fit.
          let n = maps.one_fewer in
          c.rules_below-first.ensures kinds es (c.maps.f - 1) c.args.place
          (map-spans kinds es c.args.maps.now (c.maps.f - 1) c.index-maps-f.result maps h c.index-maps-f.is)
          (all-some kinds es (suc (c.maps.f - 1)) fit (omega arith))
          (c.maps.invariant.rules kinds es maps ends fit ∙ ap (λ z. length (field_rules kinds z (take c.args.place es))) back);
    }
