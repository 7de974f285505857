use Rattle.set_tables.proofs.SearchLaws.{row-behind}
use Rattle.set_tables.proofs.laws.probe_law.Goals as goal

pub returns : goal.returns
returns c = row-behind
