use Rattle.listing_laws.proofs.RisingLaws.{history-reads-back}
use Rattle.listing_laws.proofs.laws.history_law.Goals as goal

pub returns : goal.returns
returns c = history-reads-back
