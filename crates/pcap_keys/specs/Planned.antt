-- The packets that a plan makes of a capture's frames.
use Rattle.std.specs.Prelude.{ℕ, List, [], ◌∷◌, map, Option, Some, None, if◌then◌else◌}
use Rattle.std.specs.List.{list_all, flat_map}
use Rattle.set_model.specs.declared.packet.Packet.{Packet}
use Rattle.frame_facts.specs.declared.facts.Facts.{Facts}
use Rattle.pcap_keys.specs.declared.facts.Frame.{Frame}
use Rattle.pcap_keys.specs.declared.selector.PlanLine.{PlanLine}
use Rattle.pcap_keys.specs.Selectors.{is_in, selected_value}

-- A line of a plan makes a packet of facts if they have what each of its selectors selects.
abbrev pub line_packets : Facts → ℕ → PlanLine → List Packet
line_packets facts moment line =
    if list_all (is_in facts) line.selectors then record { set = line.set; key = map (selected_value facts) line.selectors; now = moment } ∷ [] else []

abbrev pub facts_packets : List PlanLine → ℕ → Option Facts → List Packet
facts_packets plan moment None = []
facts_packets plan moment (Some facts) = flat_map (line_packets facts moment) plan

abbrev pub frame_packets : List PlanLine → Frame → List Packet
frame_packets plan frame = facts_packets plan frame.moment frame.facts

-- frame by frame, and for each frame line by line of the plan
abbrev pub packets : List PlanLine → List Frame → List Packet
packets plan frames = flat_map (frame_packets plan) frames
