use Rattle.std.proofs.Common.{◌≡◌, take, flat_map}
use Rattle.pcap_keys.specs.Planned.{frame_packets}
use Rattle.pcap_keys.proofs.keys.all_packets.Given as goal

abbrev pub invariant-captured : goal.invariant-captured
invariant-captured l = l.packets ≡ flat_map (frame_packets l.plan) (take l.frame-index l.frame-items)
