use Rattle.std.proofs.Common.{◌≡◌, sym, ◌∙◌, ap, subst, ℕ, List, take, drop, Option}
use Rattle.frame_facts.specs.Links.{facts}
use Rattle.pcap_keys.specs.declared.interface.Interface.{Interface}
use Rattle.pcap_keys.specs.Savefile.{number}
use Rattle.pcap_keys.specs.Clocks.{time}
use Rattle.pcap_keys.specs.Sections.{stamp_of, enhanced_of, Becomes}
use Rattle.pcap_keys.proofs.PacketBlocks.{enhanced_read}
use Rattle.pcap_keys.proofs.reading.Reading.enhanced_of.Goals as goal

pub returns-else-block-kept : goal.returns-else-block-kept
returns-else-block-kept c =
    let kept : c.read_u32-kept.result ≡ number c.args.order 4 (drop 20 c.args.block.now) = c.read_u32-kept.ensures ∙ ap (λ (z : List ℕ). number c.args.order 4 z) c.from_place.ensures in
    let found : c.facts_of-facts.result ≡ facts c.in-Some.interface.link (take c.read_u32-kept.result (drop 28 c.args.block.now)) = c.facts_of-facts.ensures.same ∙ ap (λ (z : List ℕ). facts c.in-Some.interface.link z) c.bytes_at.ensures in
    let at : c.time.result ≡ time c.in-Some.interface.clock (stamp_of c.args.order c.args.block.now) = c.time.ensures ∙ ap (λ (z : ℕ). time c.in-Some.interface.clock z) c.stamp_of.ensures in
    let P : Option Interface → Type 0 = λ i. Becomes c.push_timed.result c.push_timed.new.self (enhanced_of c.args.order c.args.place c.args.block.now c.args.self.now i) in
    subst P (sym c.in-Some.is) (enhanced_read c.args.order c.args.place c.args.block.now c.args.self.now c.in-Some.interface _ _ _ _ _ kept c.if-block-kept.false found at c.push_timed.ensures)
