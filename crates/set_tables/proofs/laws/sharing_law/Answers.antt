use Rattle.set_tables.proofs.SharingLaws.{search-shares}
use Rattle.set_tables.proofs.laws.sharing_law.Goals as goal

pub returns : goal.returns
returns c = search-shares
