use Rattle.std.proofs.Common.{◌≡◌, ◌-◌, ◌*◌, ◌/◌, ◌%◌, ◌<◌, ◌^◌, arith}
use Rattle.std.proofs.Math.Nat.{mod-eq_of_lt}
use Rattle.std.proofs.lemmas.Nat.{pow_pos, pow_below}
use Rattle.addr_text.proofs.IntervalLaws.{block-le}
use Rattle.list_json.proofs.values.block.Goals as goal

pub overflow_add-result : goal.overflow_add-result
overflow_add-result c =
    let host = c.args.bits - c.args.fixed in
    let room = block-le 128 host c.args.value (omega arith) (let fits = c.ranges.value in omega (arith, fits)) in
    let some = pow_pos host in
    let below : 2 ^ host < 2 ^ 128 = pow_below host 128 (omega arith) in
    let aligned : (c.args.value / 2 ^ host * 2 ^ host) % 2 ^ 128 ≡ c.args.value / 2 ^ host * 2 ^ host = mod-eq_of_lt (omega (arith, room, some)) in
    let size : (1 * 2 ^ host) % 2 ^ 128 ≡ 1 * 2 ^ host = mod-eq_of_lt (omega (arith, below)) in
    rw (aligned, size) (omega (arith, room, some))
