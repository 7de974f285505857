use Rattle.std.proofs.Common.{◌≡◌, map, take}
use Rattle.std.specs.List.{fold}
use Rattle.set_model.specs.declared.packet.Packet.{Packet}
use Rattle.rule_chain.specs.Unmet.{with_type}
use Rattle.rule_chain.proofs.unmet.add_types.Given as goal

abbrev pub invariant-loop-packet : goal.invariant-loop-packet
invariant-loop-packet l = l.types.items ≡ fold (with_type l.schema) l.fn.types.items (map (λ (p : Packet). p.set) (take l.packet-index l.packets))
