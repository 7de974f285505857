-- What `list` prints of a script is a script that gives the listed sets.
use Rattle.std.proofs.Common.{All}
use Rattle.set_model.specs.Control.{history}
use Rattle.listing_laws.specs.Listing.{by_table, HasStates}
use Rattle.listing_laws.specs.Listed.{ListingIsSayable, ListingIsScript}
use Rattle.listing_laws.proofs.ByTable.{by_table_all}
use Rattle.listing_laws.proofs.ListableLaws.{are-listable, have-states}
use Rattle.listing_laws.proofs.ListingTexts.{listing_means}
use Rattle.listing_laws.proofs.RunsLaws.{listing_runs}

pub listing-sayable : ListingIsSayable
listing-sayable mode text s means = are-listable mode text s means

pub listing-script : ListingIsScript
listing-script mode again text s means =
    let c = history mode s.schema s.sections in
    let read = listing_means s.schema c.events c.last.sets s.last (are-listable mode text s means) in
    let have : All (HasStates s.last) (by_table s.schema c.last.sets) = by_table_all (HasStates s.last) s.schema c.last.sets (have-states mode text s means) in
    (read.0, read.1, read.2, listing_runs again s.last (by_table s.schema c.last.sets) read.0 have read.2)
