use Rattle.ruleset_sets.proofs.FeedPlaces.{same_lines}
use Rattle.ruleset_sets.proofs.sieved.same_lines_law.Goals as goal

pub returns : goal.returns
returns c = λ k. same_lines c.args._whole.now c.args._kept.now k
