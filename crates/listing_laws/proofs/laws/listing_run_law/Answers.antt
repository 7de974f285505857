use Rattle.listing_laws.proofs.RunsLaws.{listing_runs}
use Rattle.listing_laws.proofs.laws.listing_run_law.Goals as goal

pub returns : goal.returns
returns c = listing_runs
