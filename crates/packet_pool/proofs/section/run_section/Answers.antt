use Rattle.std.proofs.Common.{length, map, ap, sym, subst, arith}
use lib.ListN.{length-map}
use Rattle.packet_pool.specs.Section.{IsSection, by_thread}
use Rattle.packet_pool.specs.Work.{IsFiled, IsSplit}
use Rattle.packet_pool.proofs.SectionLaws.{filed_section}
use Rattle.packet_pool.proofs.section.run_section.Goals as goal

pub file-requires-clause-few : goal.file-requires-clause-few
file-requires-clause-few g c =
    let few = c.in_ok-events.ensures.lists.few in let most = c.requires.readers.1 in
    omega (arith, few, most, length-map c.in_ok-events.lists.items (λ v. v.items), ap length c.as_slice.ensures.value)

pub file-requires-clause-split : goal.file-requires-clause-split
file-requires-clause-split g c =
    subst (λ n. IsSplit c.args.first n (map (λ v. v.items) c.as_slice.result.now)) (sym c.len.ensures)
    (subst (λ z. IsSplit c.args.first (length c.args.packets.now) (map (λ v. v.items) z)) (sym c.as_slice.ensures.value) c.in_ok-events.ensures.lists.split)

pub returns-clause-lines : goal.returns-clause-lines
returns-clause-lines g c =
    let filed = subst (λ z. IsFiled c.args.first (length c.args.packets.now) (map (λ v. v.items) z) c.in_ok-lines.lines.items) c.as_slice.ensures.value
    (subst (λ n. IsFiled c.args.first n (map (λ v. v.items) c.as_slice.result.now) c.in_ok-lines.lines.items) c.len.ensures c.in_ok-lines.ensures) in
    subst (IsSection (g.J.Judge.verdict c.args.judge.now) c.args.packets.now c.args.first (length c.args.readers.now.items) (length c.args.control.now.committed) c.answer_all.new.control.committed) (sym c.from_vec.ensures)
    (filed_section _ _ _ _ _ _ _ c.in_ok-lines.lines.items c.in_ok-events.ensures.lists filed)

pub returns-clause-moves : goal.returns-clause-moves
returns-clause-moves g c = λ i d e at now.
    let counts = subst (λ z. IsFiled c.args.first c.len.result (map (λ v. v.items) z) c.in_ok-lines.lines.items) c.as_slice.ensures.value c.in_ok-lines.ensures in
    let m = c.in_ok-events.ensures.moves i d e at now in omega (arith, m, counts.counts i, ap (by_thread i) c.from_vec.ensures)
