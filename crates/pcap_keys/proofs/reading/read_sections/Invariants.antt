use Rattle.std.proofs.Common.{length, ◌-◌}
use Rattle.pcap_keys.specs.Sections.{sections}
use Rattle.pcap_keys.proofs.BlockRuns.{Left}
use Rattle.pcap_keys.proofs.reading.read_sections.Given as goal

abbrev pub invariant-file : goal.invariant-file
invariant-file l = Left l.text l.place l.reading (sections l.text)

abbrev pub decreases-file : goal.decreases-file
decreases-file l = length l.text - l.place
