use Rattle.std.proofs.Common.{◌≡◌, ◌<◌, sym, ◌∙◌, subst, arith, length, get_or, None}
use Rattle.std.proofs.lemmas.List.{get_or_default}
use Rattle.std.proofs.Common.{length-set, get_or-set_other}
use Rattle.set_tables.specs.Search.{of_field}
use Rattle.pipapo_image.specs.Index.Grow.{IsGrownBy, IsReady, chosen}
use Rattle.pipapo_image.proofs.BuiltLaws.{passed-more}
use Rattle.pipapo_image.proofs.GrowLaws.{list-at}
use Rattle.pipapo_image.proofs.index.grow.add_columns.Goals as goal

pub add_column-requires : goal.add_column-requires
add_column-requires c =
    let t = c.index-fields-f.result in
    let g : c.fields.f < length c.args.columns.now = omega (arith, c.requires.columns, c.fields-test.true) in
    let h : c.fields.f < length c.fields.others = omega (arith, c.requires.others, c.fields.invariant.len, c.fields-test.true) in
    let other : c.take-other.result ≡ get_or c.args.others.now c.fields.f None =
    c.take-other.ensures.value ∙ get_or_default c.fields.others c.fields.f c.index-others-f.result None h ∙ c.fields.invariant.others c.fields.f (omega arith) in
    let here = get_or c.fields.fields c.fields.f t in
    let same : get_or c.args.fields.now c.fields.f t ≡ here = sym (c.fields.invariant.fields.rest c.fields.f t (omega arith)) in
    let column : of_field c.args.columns.now c.fields.f ≡ c.as_slice.result.now = list-at c.args.columns.now c.fields.f c.index-columns-f.result g c.index-columns-f.is ∙ sym c.as_slice.ensures in
    let a = c.requires.ready c.fields.f t c.fields-test.true in
    let b = subst (λ z. IsReady (of_field c.args.columns.now c.fields.f) (chosen (get_or c.args.others.now c.fields.f None) z)) same a in
    let d = subst (λ z. IsReady (of_field c.args.columns.now c.fields.f) (chosen z here)) (sym other) b in
    subst (λ z. IsReady z (chosen c.take-other.result here)) column d

pub fields-preserved : goal.fields-preserved
fields-preserved c =
    let t = c.index-fields-f.result in
    let g : c.fields.f < length c.args.columns.now = omega (arith, c.requires.columns, c.fields-test.true) in
    let h : c.fields.f < length c.fields.others = omega (arith, c.requires.others, c.fields.invariant.len, c.fields-test.true) in
    let other : c.take-other.result ≡ get_or c.args.others.now c.fields.f None =
    c.take-other.ensures.value ∙ get_or_default c.fields.others c.fields.f c.index-others-f.result None h ∙ c.fields.invariant.others c.fields.f (omega arith) in
    let column : of_field c.args.columns.now c.fields.f ≡ c.as_slice.result.now = list-at c.args.columns.now c.fields.f c.index-columns-f.result g c.index-columns-f.is ∙ sym c.as_slice.ensures in
    let y = c.add_column.new.field in
    let here = get_or c.fields.fields c.fields.f t in
    let a : IsGrownBy c.as_slice.result.now (chosen c.take-other.result here) y = c.add_column.ensures in
    let b = subst (λ z. IsGrownBy z (chosen c.take-other.result here) y) (sym column) a in
    let d = subst (λ z. IsGrownBy (of_field c.args.columns.now c.fields.f) (chosen z here) y) other b in
    record {
      fields = passed-more (λ f a b. IsGrownBy (of_field c.args.columns.now f) (chosen (get_or c.args.others.now f None) a) b) c.args.fields.now c.fields.fields c.fields.f y t c.fields.invariant.fields c.fields-test.true d;
      len = length-set c.fields.others c.fields.f c.take-other.new.self ∙ c.fields.invariant.len;
      others = λ k l.
          let ne : k ≡ c.fields.f → ⊥ = λ q. absurd (omega arith) in
          get_or-set_other c.fields.others c.fields.f k c.take-other.new.self None ne ∙ c.fields.invariant.others k (omega arith);
    }
