use Rattle.lookup_table.proofs.MatchLaws.{held-by-buckets}
use Rattle.lookup_table.proofs.laws.held_by_buckets.Goals as goal

pub returns : goal.returns
returns c = held-by-buckets
