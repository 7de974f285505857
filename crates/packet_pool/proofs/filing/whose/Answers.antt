use Rattle.std.proofs.Common.{rules, length, refl, arith, below_more, slice_index}
use Rattle.std.proofs.lemmas.Option.{slice_get_read}
use Rattle.packet_pool.proofs.FilingLaws.{lines-at, not_at_end, not_another}
use Rattle.packet_pool.proofs.filing.whose.Goals as goal
use Rattle.packet_pool.proofs.filing.whose.Goals.{else-at-len-via-then-at-len+else-index-packet, else-at-len-via-else-at-len}

pub loop-i-preserved : goal.loop-i-preserved
loop-i-preserved c =
    let list = c.index-lists-i.result in let is = lines-at (λ v. v.items) c.args.lists.now c.loop-i.i list c.loop-i-test.true c.index-lists-i.is in
    below_more _ _ c.loop-i.invariant (elim c.else-at-len.branch [
      | else-at-len-via-then-at-len+else-index-packet w ↦ not_another _ _ _ c.loop-i.i list.items w.index.result.now is (slice_get_read list.items (length list.items) (slice_index c.args.next.now c.loop-i.i) w.index.result.now refl (search rules) w.index.ensures) w.if-index-packet.false
      | else-at-len-via-else-at-len w ↦ not_at_end _ _ _ c.loop-i.i list.items is (search rules)
    ])

pub unreachable-requires : goal.unreachable-requires
unreachable-requires c = let there = c.requires.there in let end = c.loop-i-test.false in c.loop-i.invariant there.0 (let l = there.1 in omega (arith, l, end)) there.2
