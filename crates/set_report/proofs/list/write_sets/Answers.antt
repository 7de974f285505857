use Rattle.std.proofs.Common.{◌≡◌, sym, ◌∙◌, subst, Some, codes, slice_get, arith}
use Rattle.set_model.specs.Control.{Generation}
use Rattle.set_report.specs.ListText.{listed_set}
use Rattle.element_text.proofs.JoinLaws.{Joins, two_writes, zip-all}
use Rattle.set_report.proofs.ListLaws.{joins_set, beside_other}
use Rattle.set_report.proofs.list.write_sets.Goals as goal

pub sets-preserved-then-not-is_same_table : goal.sets-preserved-then-not-is_same_table
sets-preserved-then-not-is_same_table c =
    let other = sym c.is_same_table.ensures ∙ c.if-not-is_same_table.true in
    subst (λ zs. Joins (listed_set c.args.now) (codes "\n") zs c.args.out.now.items c.sets.out.items c.sets.separator.now)
    (sym (beside_other c.args.first.now c.at-set.result.now c.args.schema.now c.args.generation.now.sets c.sets.place c.requires.one_each c.at-set.ensures other))
    c.sets.invariant

pub sets-preserved : goal.sets-preserved
sets-preserved c =
    let same = sym c.is_same_table.ensures ∙ c.if-not-is_same_table.false in
    let image : slice_get c.args.generation.now.sets c.sets.place ≡ Some c.at.result.now = subst (λ (g : Generation). slice_get g.sets c.sets.place ≡ Some c.at.result.now) c.generation.view_is c.at.ensures in
    joins_set (listed_set c.args.now) (codes "\n") c.args.first.now c.at-set.result.now c.at.result.now c.args.schema.now c.args.generation.now.sets c.sets.place _ _ _ _ c.at-set.ensures image same c.sets.invariant
    (two_writes _ _ _ _ _ c.in_ok-write.ensures.ok c.in_ok-write_kept_set.ensures.ok)

pub returns-clause-ok : goal.returns-clause-ok
returns-clause-ok c =
    let all = zip-all c.args.schema.now c.args.generation.now.sets c.sets.place (omega (arith, c.sets-test.false, c.len-place-end.ensures, c.requires.one_each)) in
    (rw all at c.sets.invariant.text)
