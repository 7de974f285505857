use Rattle.std.proofs.Common.{◌≡◌, ◌++◌, take, flat_map}
use Rattle.pcap_keys.specs.Planned.{line_packets}
use Rattle.pcap_keys.proofs.keys.add_lines.Given as goal

abbrev pub invariant-lines : goal.invariant-lines
invariant-lines l = l.packets ≡ l.initial.packets ++ flat_map (line_packets l.facts l.moment) (take l.line-index l.plan)
