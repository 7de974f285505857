use Rattle.set_tables.proofs.SearchLaws.{core-behind}
use Rattle.set_tables.proofs.laws.core_law.Goals as goal

pub returns : goal.returns
returns c = core-behind
