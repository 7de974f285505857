use Rattle.std.proofs.Common.{length}
use Rattle.pcap_keys.proofs.plan.+more_selectors.Given as goal

abbrev pub decreases-more_selectors : goal.decreases-more_selectors
decreases-more_selectors l = length l.kinds.now
