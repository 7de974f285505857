use Rattle.std.proofs.Common.{◌≡◌, sym, ◌∙◌, ap, length}
use Rattle.set_model.specs.SetState.{State, purged}
use Rattle.set_space.specs.LazyImage.{set_of}
use Rattle.set_space.proofs.LazyLaws.{purged_twice, purged_count, new_of}
use Rattle.set_space.proofs.lazy_image.LazyImage.without_expired.Goals as goal

pub returns-then-is_many_without : goal.returns-then-is_many_without
returns-then-is_many_without c =
    let image = c.args.self.now.image in
    new_of c.new.result.passed c.new.result.image c.new.ensures.none ∙ c.new.ensures.image ∙ c.in_ok-image.ensures
    ∙ ap (purged image) c.moment-passed.ensures ∙ purged_twice c.args.self.now.passed image c.args.now

pub invariant_of-result : goal.invariant_of-result
invariant_of-result c =
    let image = c.args.self.now.image in
    let same : purged c.in_ok-copy.field-0 c.moment-passed.result ≡ purged (set_of c.args.self.now) c.args.now =
    ap (λ s. purged s c.moment-passed.result) c.in_ok-copy.ensures ∙ ap (purged image) c.moment-passed.ensures ∙ purged_twice c.args.self.now.passed image c.args.now in
    record { counted = purged_count (set_of c.args.self.now) c.args.now c.args.self.now.count c.args.count c.args.self.now.counted c.requires ∙ ap (λ (s : State). length s.elements) (sym same) }

pub returns : goal.returns
returns c =
    let image = c.args.self.now.image in
    ap (λ s. purged s c.moment-passed.result) c.in_ok-copy.ensures ∙ ap (purged image) c.moment-passed.ensures ∙ purged_twice c.args.self.now.passed image c.args.now
