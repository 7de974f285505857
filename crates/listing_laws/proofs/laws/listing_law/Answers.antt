use Rattle.listing_laws.proofs.TextLaws.{text-reads-back}
use Rattle.listing_laws.proofs.laws.listing_law.Goals as goal

pub returns : goal.returns
returns c = text-reads-back
