use Rattle.pipapo_image.specs.Index.Grow.{IsKept}
use Rattle.pipapo_image.proofs.BuiltLaws.{each-more}
use Rattle.pipapo_image.proofs.GrowLaws.{kept-trans}
use Rattle.pipapo_image.proofs.index.pages.settle_buckets.Goals as goal

pub returns-in_err-settle_rules : goal.returns-in_err-settle_rules
returns-in_err-settle_rules c =
    each-more IsKept c.args.fields.now c.fields.fields c.fields.f c.settle_rules.new.field c.index-fields-f.result kept-trans c.fields.invariant c.fields-test.true c.settle_rules.ensures

pub fields-preserved : goal.fields-preserved
fields-preserved c =
    each-more IsKept c.args.fields.now c.fields.fields c.fields.f c.settle_rules.new.field c.index-fields-f.result kept-trans c.fields.invariant c.fields-test.true c.settle_rules.ensures
