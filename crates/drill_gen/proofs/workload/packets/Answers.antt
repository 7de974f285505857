use Rattle.std.proofs.Common.{◌≡◌, ap, rules}
use Rattle.drill_gen.specs.Drill.{after_draws}
use Rattle.drill_gen.specs.Drawing.{packet_state, packet_from, packet_draws, drawn_packet}
use Rattle.drill_gen.proofs.DrawLaws.{packet-more, map-range-more}
use Rattle.drill_gen.proofs.workload.packets.Goals as goal

pub loop-p-preserved : goal.loop-p-preserved
loop-p-preserved c =
    let x = c.args.draws.now.state in
    let p = c.loop-p.p in
    let targets = c.args.targets.now in
    let here : c.loop-p.draws.state ≡ packet_state x p = c.loop-p.invariant.next in
    let packet : c.in_ok-packet.field-0 ≡ drawn_packet targets x p = cc (c.in_ok-packet.ensures.packet, ap (λ state. packet_from targets state p) here) in
    record {
      next = cc (c.in_ok-packet.ensures.next, ap (λ state. after_draws state (packet_draws p)) here, packet-more x p);
      packets = map-range-more (drawn_packet targets x) p c.loop-p.invariant.packets packet (search rules);
    }
