use Rattle.std.proofs.Common.{◌∙◌, ◌<◌, length, arith, length-set}
use Rattle.pipapo_image.proofs.KeyLaws.{one-further}
use Rattle.pipapo_image.proofs.image.keys.ends.Goals as goal

pub fields-preserved : goal.fields-preserved
fields-preserved c =
    let there : c.fields.f < length c.fields.highs = omega (arith, c.fields.invariant.long, c.requires) in
    record {
      long = length-set c.fields.highs c.fields.f c.at.result.now.high ∙ c.fields.invariant.long;
      ends = one-further (λ part. part.high) c.args.parts.now c.fields.highs c.fields.f c.at.result.now c.at.ensures there c.fields.invariant.ends;
    }
