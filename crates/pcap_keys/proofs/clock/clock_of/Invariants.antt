use Rattle.std.proofs.Common.{length}
use Rattle.pcap_keys.specs.Clocks.{usual, options}
use Rattle.pcap_keys.proofs.Options.{Left}
use Rattle.pcap_keys.proofs.clock.clock_of.Given as goal

abbrev pub invariant-options : goal.invariant-options
invariant-options l = Left l.order l.bytes l.clock (options l.order (length l.options) l.options usual)

abbrev pub decreases-options : goal.decreases-options
decreases-options l = length l.bytes
