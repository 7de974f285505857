use Rattle.pipapo_image.proofs.GrowLaws.{kept-by}
use Rattle.pipapo_image.proofs.index.pages.settle_rules.Goals as goal

pub returns-in_err-settle : goal.returns-in_err-settle
returns-in_err-settle c = kept-by c.args.field.now c.settle.new.self c.settle.ensures.same c.settle.ensures.rules c.settle.ensures.buckets

pub returns : goal.returns
returns c = kept-by c.args.field.now c.settle.new.self c.settle.ensures.same c.settle.ensures.rules c.settle.ensures.buckets
