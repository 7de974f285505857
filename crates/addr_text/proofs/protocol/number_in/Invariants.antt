use Rattle.std.proofs.Common.{◌≡◌, map, drop}
use Rattle.addr_text.specs.Protocols.{number_in}
use Rattle.addr_text.proofs.protocol.number_in.Given as goal

abbrev pub invariant-loop-protocol : goal.invariant-loop-protocol
invariant-loop-protocol l =
    number_in (map (λ p. (p.name.now, p.number)) l.table) l.name ≡ number_in (map (λ p. (p.name.now, p.number)) (drop l.protocol-index l.table)) l.name
