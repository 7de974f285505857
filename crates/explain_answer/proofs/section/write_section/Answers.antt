use Rattle.std.proofs.Common.{◌≡◌, ◌∙◌, ◌++◌, ap, List, Some, slice_get, take, flat_map}
use Rattle.std.specs.List.{list_any}
use Rattle.std.proofs.lemmas.List.{take_all}
use Rattle.set_model.specs.Runnable.{IsFitting}
use Rattle.set_model.specs.declared.packet.Packet.{Packet}
use Rattle.script_laws.proofs.Lists.{of-place}
use Rattle.key_match.proofs.ListLaws.{text-next}
use Rattle.explain_answer.specs.Explained.{packet_in, lacks_answer}
use Rattle.explain_answer.specs.Runs.{after_run}
use Rattle.explain_answer.proofs.RunLaws.{any-next, read-item}
use Rattle.explain_answer.proofs.section.write_section.Goals as goal

pub write_one-requires-clause-fits : goal.write_one-requires-clause-fits
write_one-requires-clause-fits c =
    of-place (IsFitting c.args.trace.now.control.schema) c.as_slice-packet-items.result.now c.args.packets.now c.packets.packet-index c.packet-item.result c.as_slice-packet-items.ensures c.packets-test.true c.packet-item.is c.requires.fits

pub packets-preserved : goal.packets-preserved
packets-preserved c =
    let a = after_run c.args.trace.now in
    let ps = c.as_slice-packet-items.result.now in
    let at : slice_get ps c.packets.packet-index ≡ Some c.packet-item.result = read-item ps c.packets.packet-index c.packet-item.result c.packets-test.true c.packet-item.is in record {
      text = text-next ps c.packets.packet-index c.packet-item.result at (packet_in a) c.args.out.now.items c.packets.out.items c.write_one.new.out.items c.packets.invariant.text c.in_ok-lacks_one.ensures.text;
      lacks = any-next (lacks_answer a) ps c.packets.packet-index c.packet-item.result c.packets.lacks c.in_ok-lacks_one.lacks_one c.either-lacks.result at c.packets.invariant.lacks c.in_ok-lacks_one.ensures.lacks c.either-lacks.ensures;
    }

pub returns-clause-text : goal.returns-clause-text
returns-clause-text c =
    let all = take_all c.packets.packet-index c.as_slice-packet-items.result.now c.packets-test.false ∙ c.as_slice-packet-items.ensures in
    c.packets.invariant.text ∙ ap (λ (z : List Packet). c.args.out.now.items ++ flat_map (packet_in (after_run c.args.trace.now)) z) all

pub returns-clause-lacks : goal.returns-clause-lacks
returns-clause-lacks c =
    let all = take_all c.packets.packet-index c.as_slice-packet-items.result.now c.packets-test.false ∙ c.as_slice-packet-items.ensures in
    c.packets.invariant.lacks ∙ ap (λ (z : List Packet). list_any (lacks_answer (after_run c.args.trace.now)) z) all
