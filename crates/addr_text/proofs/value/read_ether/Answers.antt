use Rattle.std.proofs.Common.{◌+◌, ◌-◌, sym, ◌∙◌, arith, lit<}
use Rattle.addr_text.proofs.NumberLaws.{more_digits}
use Rattle.addr_text.proofs.EtherLaws.{ether_behind-next, next_octet-lt}
use Rattle.addr_text.proofs.value.read_ether.Goals as goal

pub overflow_mul-value : goal.overflow_mul-value
overflow_mul-value c = omega (arith, more_digits 256 c.loop.value 0 (c.loop.counter + 1) 8 (lit< tt) c.loop.invariant.1 (lit< tt) (omega arith))

pub overflow_add-value : goal.overflow_add-value
overflow_add-value c = omega (arith, more_digits 256 c.loop.value c.from.result (c.loop.counter + 1) 8 (lit< tt) c.loop.invariant.1 (omega (arith, c.from.ensures, next_octet-lt c.loop.rest.now c.in-Some.behind.now c.in-Some.octet (sym c.in-Some.ensures))) (omega arith))

pub loop-preserved : goal.loop-preserved
loop-preserved c = (
  c.loop.invariant.0 ∙ ether_behind-next _ (5 - (c.loop.counter + 1)) _ _ _ _ (omega arith) (rw c.from.ensures (sym c.in-Some.ensures)),
  more_digits 256 c.loop.value c.from.result (c.loop.counter + 1) (c.loop.counter + 1 + 1) (lit< tt) c.loop.invariant.1 (omega (arith, c.from.ensures, next_octet-lt c.loop.rest.now c.in-Some.behind.now c.in-Some.octet (sym c.in-Some.ensures))) (omega arith),
)
