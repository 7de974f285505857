use Rattle.std.proofs.Common.{◌<◌, arith, length}
use Rattle.lookup_table.specs.Rules.{IsOwn}
use Rattle.pipapo_image.specs.Index.Grow.{IsKept}
use Rattle.pipapo_image.specs.Index.Runs.{run_at}
use Rattle.pipapo_image.proofs.BuiltLaws.{each-more, set-more}
use Rattle.pipapo_image.proofs.GrowLaws.{kept-trans}
use Rattle.pipapo_image.proofs.index.pages.own_buckets.Goals as goal

pub returns-in_err-own_rules-clause-kept : goal.returns-in_err-own_rules-clause-kept
returns-in_err-own_rules-clause-kept c =
    each-more IsKept c.args.fields.now c.fields.fields c.fields.f c.own_rules.new.field c.index-fields-f.result kept-trans c.fields.invariant.kept c.fields-test.true c.own_rules.ensures.kept

pub fields-preserved : goal.fields-preserved
fields-preserved c =
    let inside : c.fields.f < length c.fields.fields = omega (arith, c.fields.invariant.kept.len, c.fields-test.true) in
    record {
      kept = each-more IsKept c.args.fields.now c.fields.fields c.fields.f c.own_rules.new.field c.index-fields-f.result kept-trans c.fields.invariant.kept c.fields-test.true c.own_rules.ensures.kept;
      own = set-more (λ k t. IsOwn (run_at c.args.runs.now k).first t.rules t) c.fields.fields c.fields.f c.own_rules.new.field inside c.fields.invariant.own c.in_ok-own_rules.ensures.own;
    }
