use Rattle.std.proofs.Common.{◌∙◌, ◌<◌, length, arith, length-set}
use Rattle.pipapo_image.proofs.KeyLaws.{one-further}
use Rattle.pipapo_image.proofs.image.keys.starts.Goals as goal

pub fields-preserved : goal.fields-preserved
fields-preserved c =
    let there : c.fields.f < length c.fields.lows = omega (arith, c.fields.invariant.long, c.requires) in
    record {
      long = length-set c.fields.lows c.fields.f c.at.result.now.low ∙ c.fields.invariant.long;
      starts = one-further (λ part. part.low) c.args.parts.now c.fields.lows c.fields.f c.at.result.now c.at.ensures there c.fields.invariant.starts;
    }
