use Rattle.std.proofs.Common.{length, ◌-◌}
use Rattle.pcap_keys.proofs.Records.{Left}
use Rattle.pcap_keys.proofs.capture.all_records.Given as goal

abbrev pub invariant-records : goal.invariant-records
invariant-records l = Left l.format l.link l.start l.text l.frames l.place

abbrev pub decreases-records : goal.decreases-records
decreases-records l = length l.text - l.place
