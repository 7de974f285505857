use Rattle.set_space.proofs.TableLaws.{keeps-unchanged}
use Rattle.set_space.proofs.laws.unchanged_law.Goals as goal

pub returns : goal.returns
returns c = keeps-unchanged
