use Rattle.std.proofs.Common.{◌≡◌, refl, sym, ◌∙◌, ap, ◌++◌, ◌≤◌, length, slice_get, Some, arith}
use Rattle.set_model.specs.Control.{Generation}
use Rattle.stat_answer.specs.StatText.{set_stat, sets_stat}
use Rattle.stat_answer.proofs.FigureLaws.{paired-more, further, none-left}
use Rattle.stat_answer.proofs.text.write_sets.Goals as goal

pub sets-init : goal.sets-init
sets-init c = refl

pub sets-preserved : goal.sets-preserved
sets-preserved c =
    let at : slice_get c.args.generation.now.sets c.sets.i ≡ Some c.at-in-sets.result.now = cc (ap (λ (z : Generation). slice_get z.sets c.sets.i) c.generation.view_is, c.at-in-sets.ensures) in
    let more = paired-more (set_stat c.args.now) c.args.schema.now c.args.generation.now.sets c.sets.i c.at.result.now c.at-in-sets.result.now c.at.ensures at in
    further c.args.out.now.items c.sets.out.items c.write_kept_set.new.out.items _ _ _ (ap (λ t. c.sets.out.items ++ t) (sym more) ∙ c.sets.invariant) c.in_ok-write_kept_set.ensures

pub returns : goal.returns
returns c =
    let past : length c.args.schema.now ≤ c.sets.i = omega (arith, c.sets-test.false, c.len-i-end.ensures) in
    none-left (set_stat c.args.now) c.args.schema.now c.args.generation.now.sets c.sets.i c.sets.out.items _ past c.sets.invariant
