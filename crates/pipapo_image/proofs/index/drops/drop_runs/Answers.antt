use Rattle.std.proofs.Common.{◌≡◌, ◌<◌, ◌∙◌, subst, arith, length, get_or, None}
use Rattle.std.proofs.lemmas.List.{get_or_default}
use Rattle.std.proofs.Common.{length-set, get_or-set_other}
use Rattle.pipapo_image.specs.Index.Grow.{chosen}
use Rattle.pipapo_image.specs.Index.Runs.{run_at}
use Rattle.pipapo_image.specs.Index.Shrink.{IsShrunk}
use Rattle.pipapo_image.proofs.BuiltLaws.{passed-more}
use Rattle.pipapo_image.proofs.index.drops.drop_runs.Goals as goal

pub fields-preserved : goal.fields-preserved
fields-preserved c =
    let t = c.index-fields-f.result in
    let h : c.fields.f < length c.fields.others = omega (arith, c.requires.one_other, c.fields.invariant.len, c.fields-test.true) in
    let other : c.take-other.result ≡ get_or c.args.others.now c.fields.f None =
    c.take-other.ensures.value ∙ get_or_default c.fields.others c.fields.f c.index-others-f.result None h ∙ c.fields.invariant.others c.fields.f (omega arith) in
    let y = c.drop_run.new.field in
    let run = run_at c.args.runs.now c.fields.f in
    let here = get_or c.fields.fields c.fields.f t in
    let a : IsShrunk run (chosen c.take-other.result here) y = c.drop_run.ensures in
    let b = subst (λ z. IsShrunk run (chosen z here) y) other a in
    record {
      fields = passed-more (λ f a b. IsShrunk (run_at c.args.runs.now f) (chosen (get_or c.args.others.now f None) a) b) c.args.fields.now c.fields.fields c.fields.f y t c.fields.invariant.fields c.fields-test.true b;
      len = length-set c.fields.others c.fields.f c.take-other.new.self ∙ c.fields.invariant.len;
      others = λ k l.
          let ne : k ≡ c.fields.f → ⊥ = λ q. absurd (omega arith) in
          get_or-set_other c.fields.others c.fields.f k c.take-other.new.self None ne ∙ c.fields.invariant.others k (omega arith);
    }
