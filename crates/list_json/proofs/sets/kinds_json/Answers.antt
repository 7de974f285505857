use Rattle.std.proofs.Common.{◌∙◌, ap}
use Rattle.std.proofs.lemmas.Option.{slice_get-get_or}
use Rattle.set_model.specs.declared.kind.Kind.TheVariants.{Ipv4}
use Rattle.list_json.specs.JsonValues.{text_data}
use Rattle.list_json.specs.JsonSets.{kind_data}
use Rattle.list_json.proofs.PushLaws.{item-more}
use Rattle.list_json.proofs.sets.kinds_json.Goals as goal

pub kinds-preserved : goal.kinds-preserved
kinds-preserved c =
    item-more kind_data c.args.kinds.now c.kinds.kind-index _ _ _ _ (slice_get-get_or c.args.kinds.now c.kinds.kind-index Ipv4 c.kinds-test.true) c.kinds.invariant c.in_ok-push.ensures.ok
    (c.in_ok-text_json.ensures ∙ ap text_data c.kind_word.ensures)
