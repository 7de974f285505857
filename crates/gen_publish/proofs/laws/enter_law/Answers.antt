use Rattle.gen_publish.proofs.Entering.{enters-the-last}
use Rattle.gen_publish.proofs.laws.enter_law.Goals as goal

pub returns : goal.returns
returns c = enters-the-last
