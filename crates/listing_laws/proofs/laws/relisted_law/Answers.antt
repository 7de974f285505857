use Rattle.listing_laws.proofs.RelistedLaws.{grown-reads-back}
use Rattle.listing_laws.proofs.laws.relisted_law.Goals as goal

pub returns : goal.returns
returns c = grown-reads-back
