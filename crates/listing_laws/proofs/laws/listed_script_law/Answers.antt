use Rattle.listing_laws.proofs.ListedScripts.{listing-script}
use Rattle.listing_laws.proofs.laws.listed_script_law.Goals as goal

pub returns : goal.returns
returns c = listing-script
