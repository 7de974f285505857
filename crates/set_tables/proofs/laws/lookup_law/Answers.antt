use Rattle.set_tables.proofs.SearchLaws.{search-finds}
use Rattle.set_tables.proofs.laws.lookup_law.Goals as goal

pub returns : goal.returns
returns c = search-finds
