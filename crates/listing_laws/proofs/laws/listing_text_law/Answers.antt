use Rattle.listing_laws.proofs.ListingTexts.{listing_means}
use Rattle.listing_laws.proofs.laws.listing_text_law.Goals as goal

pub returns : goal.returns
returns c = listing_means
