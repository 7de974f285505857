use Rattle.std.proofs.Common.{ap, ◌∙◌, map}
use Rattle.list_json.specs.JsonValues.{interval_data}
use Rattle.element_text.proofs.JoinLaws.{field_good, field_there, zip-all}
use Rattle.list_json.proofs.PushLaws.{item-more}
use Rattle.list_json.proofs.values.each_interval.Goals as goal

pub interval_json-requires : goal.interval_json-requires
interval_json-requires c = field_good c.args.kinds.now c.args.parts.now c.fields.field c.requires c.fields-test.true

pub fields-preserved : goal.fields-preserved
fields-preserved c =
    item-more (λ p. interval_data p.0 p.1) _ c.fields.field _ _ _ _ (field_there c.args.kinds.now c.args.parts.now c.fields.field c.requires c.fields-test.true) c.fields.invariant c.in_ok-push.ensures.ok c.in_ok-interval_json.ensures

pub returns : goal.returns
returns c = c.fields.invariant ∙ ap (map (λ p. interval_data p.0 p.1)) (zip-all c.args.kinds.now c.args.parts.now c.fields.field c.fields-test.false)
