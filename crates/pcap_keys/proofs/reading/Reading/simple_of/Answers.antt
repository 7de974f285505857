use Rattle.std.proofs.Common.{◌≡◌, sym, ◌∙◌, ap, subst, ℕ, List, take, drop, Option}
use Rattle.frame_facts.specs.Links.{facts}
use Rattle.pcap_keys.specs.declared.interface.Interface.{Interface}
use Rattle.pcap_keys.specs.Savefile.{number}
use Rattle.pcap_keys.specs.Sections.{kept_of, simple_of, Becomes}
use Rattle.pcap_keys.proofs.PacketBlocks.{simple_read}
use Rattle.pcap_keys.proofs.reading.Reading.simple_of.Goals as goal

pub returns-else-block-kept : goal.returns-else-block-kept
returns-else-block-kept c =
    let n : c.read_u32.result ≡ number c.args.order 4 (drop 8 c.args.block.now) = c.read_u32.ensures ∙ ap (λ (z : List ℕ). number c.args.order 4 z) c.from_place.ensures in
    let kept : c.kept_of-kept.result ≡ kept_of c.in-Some.interface.most (number c.args.order 4 (drop 8 c.args.block.now)) = c.kept_of-kept.ensures ∙ ap (λ (z : ℕ). kept_of c.in-Some.interface.most z) n in
    let found : c.facts_of-facts.result ≡ facts c.in-Some.interface.link (take c.kept_of-kept.result (drop 12 c.args.block.now)) = c.facts_of-facts.ensures.same ∙ ap (λ (z : List ℕ). facts c.in-Some.interface.link z) c.bytes_at.ensures in
    let P : Option Interface → Type 0 = λ i. Becomes c.push_frame.result c.push_frame.new.self (simple_of c.args.order c.args.place c.args.block.now c.args.self.now i) in
    subst P (sym c.in-Some.is) (simple_read c.args.order c.args.place c.args.block.now c.args.self.now c.in-Some.interface _ _ _ _ kept c.if-block-kept.false found c.push_frame.ensures)
