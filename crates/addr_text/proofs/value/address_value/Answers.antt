use Rattle.std.proofs.Common.{get_or, arith, lit<}
use Rattle.addr_text.proofs.AddressLaws.{segments_fit}
use Rattle.addr_text.proofs.value.address_value.Goals as goal

pub overflow_mul-value : goal.overflow_mul-value
overflow_mul-value c =
    let fits = segments_fit c.args.segments.now c.loop-segment.segment-index 0 c.requires c.loop-segment-test.true (λ k. omega (arith, c.type_inv.segments k)) (lit< tt) in
    omega (arith, fits, c.loop-segment.invariant)

pub overflow_add-value : goal.overflow_add-value
overflow_add-value c =
    let fits = segments_fit c.args.segments.now c.loop-segment.segment-index (get_or c.args.segments.now c.loop-segment.segment-index 0) c.requires c.loop-segment-test.true (λ k. omega (arith, c.type_inv.segments k)) (omega (arith, c.type_inv.segments c.loop-segment.segment-index)) in
    omega (arith, fits, c.loop-segment.invariant, c.from.ensures)
