use Rattle.std.proofs.Common.{◌≡◌, ◌++◌, take, flat_map}
use Rattle.std.specs.List.{list_any}
use Rattle.explain_answer.specs.Explained.{packet_in, lacks_answer}
use Rattle.explain_answer.specs.Runs.{after_run}
use Rattle.explain_answer.proofs.section.write_section.Given as goal

-- the packets so far
abbrev pub invariant-packets : goal.invariant-packets
invariant-packets l = record {
  text : l.out.items ≡ l.initial.out.items ++ flat_map (packet_in (after_run l.trace)) (take l.packet-index l.packet-items);
  lacks : l.lacks ≡ list_any (lacks_answer (after_run l.trace)) (take l.packet-index l.packet-items);
}
