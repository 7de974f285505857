use Rattle.std.proofs.Common.{◌≡◌, sym, ◌∙◌, ap, List, ◌++◌, subst, Some, slice_get, map, append-nil, arith}
use Rattle.serde_json.specs.View.{view}
use Rattle.set_model.specs.declared.script.SetDecl.{SetDecl}
use Rattle.set_model.specs.Control.{Generation}
use Rattle.set_model.specs.SetState.{State}
use Rattle.element_text.proofs.JoinLaws.{zip-all}
use Rattle.set_report.specs.ListText.{sets_beside}
use Rattle.list_json.specs.JsonSets.{set_data}
use Rattle.list_json.proofs.TableLaws.{beside-other, set-more}
use Rattle.list_json.proofs.tables.push_sets.Goals as goal

pub sets-init : goal.sets-init
sets-init c = sym (append-nil (map view c.args.values.now.items))

pub sets-preserved-then-not-is_same_table : goal.sets-preserved-then-not-is_same_table
sets-preserved-then-not-is_same_table c =
    let other = sym c.is_same_table.ensures ∙ c.if-not-is_same_table.true in
    c.sets.invariant
    ∙ ap (λ (zs : List (SetDecl × State)). map view c.args.values.now.items ++ map (set_data c.args.now) zs)
    (sym (beside-other c.args.first.now c.at-set.result.now c.args.schema.now c.args.generation.now.sets c.sets.place c.requires.one_each c.at-set.ensures other))

pub sets-preserved : goal.sets-preserved
sets-preserved c =
    let same = sym c.is_same_table.ensures ∙ c.if-not-is_same_table.false in
    let there : slice_get c.args.generation.now.sets c.sets.place ≡ Some c.at.result.now = subst (λ (g : Generation). slice_get g.sets c.sets.place ≡ Some c.at.result.now) c.generation.view_is c.at.ensures in
    set-more c.args.now c.args.first.now c.at-set.result.now c.at.result.now c.args.schema.now c.args.generation.now.sets c.sets.place _ _ _ _ c.at-set.ensures there same c.sets.invariant c.in_ok-push.ensures.ok c.in_ok-kept_json.ensures

pub returns : goal.returns
returns c =
    let all = zip-all c.args.schema.now c.args.generation.now.sets c.sets.place (omega (arith, c.sets-test.false, c.len-place-end.ensures, c.requires.one_each)) in
    c.sets.invariant ∙ ap (λ (zs : List (SetDecl × State)). map view c.args.values.now.items ++ map (set_data c.args.now) (sets_beside c.args.first.now zs)) all
