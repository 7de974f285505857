use Rattle.std.proofs.Common.{◌∙◌, ap, ◌++◌, ◌∷◌, []}
use Rattle.list_json.specs.JsonSets.{elements_data}
use Rattle.list_json.proofs.PushLaws.{elements-more}
use Rattle.list_json.proofs.sets.elements_json.Goals as goal

pub elements-preserved : goal.elements-preserved
elements-preserved c =
    c.in_ok-push_element.ensures ∙ ap (λ ds. ds ++ elements_data c.args.set.now c.args.now (c.at.result.now ∷ [])) c.elements.invariant
    ∙ elements-more c.args.set.now c.args.now c.args.elements.now c.elements.i c.at.result.now c.at.ensures
