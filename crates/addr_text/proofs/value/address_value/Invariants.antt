use Rattle.std.proofs.Common.{◌≡◌, take}
use Rattle.addr_text.specs.Numbers.{big_endian}
use Rattle.addr_text.proofs.value.address_value.Given as goal

abbrev pub invariant-loop-segment : goal.invariant-loop-segment
invariant-loop-segment l = l.value ≡ big_endian 65536 (take l.segment-index l.segments)
