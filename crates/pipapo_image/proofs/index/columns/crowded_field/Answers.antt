use Rattle.std.proofs.Common.{◌+◌, ◌<◌, arith, ap, length}
use Rattle.std.specs.Prelude.{slice_index}
use Rattle.std.proofs.lemmas.Bool.{lt-ltb}
use Rattle.set_tables.specs.Search.{of_field}
use Rattle.pipapo_image.specs.Index.Grow.{counts, is_over}
use Rattle.pipapo_image.proofs.GrowLaws.{list-at, count-any, number-found, number-none}
use Rattle.pipapo_image.proofs.index.columns.crowded_field.Goals as goal

pub returns-then-len-free : goal.returns-then-len-free
returns-then-len-free c =
    let g : c.fields.f < length c.args.columns.now = omega arith in
    let a = count-any c.args.fields.now c.fields.f c.index-fields-f.result c.fields-test.true in
    let b = ap length (list-at c.args.columns.now c.fields.f c.index-columns-f.result g c.index-columns-f.is) in
    let few = c.requires.rules c.fields.f c.index-fields-f.result c.fields-test.true in
    let more : 1048576 < slice_index (counts c.args.fields.now) c.fields.f + length (of_field c.args.columns.now c.fields.f) =
    omega (arith, c.if-len-free.true, c.len.ensures, a, b, few, ap (λ z. z.rules) c.index-fields-f.is) in
    number-found (is_over (counts c.args.fields.now) c.args.columns.now) (length c.args.fields.now) c.fields.f c.fields-test.true c.fields.invariant (lt-ltb _ _ more)

pub returns : goal.returns
returns c = number-none (is_over (counts c.args.fields.now) c.args.columns.now) (length c.args.fields.now) (λ k h. c.fields.invariant k (omega arith))
