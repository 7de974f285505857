use Rattle.listing_laws.proofs.ListedScripts.{listing-sayable}
use Rattle.listing_laws.proofs.laws.listable_law.Goals as goal

pub returns : goal.returns
returns c = listing-sayable
