use Rattle.std.proofs.Common.{◌≡◌, ◌-◌, ◌+◌, ◌<◌, ◌^◌}
use Rattle.addr_text.specs.ValuesRead.{ether_of, ether_behind}
use Rattle.addr_text.proofs.value.read_ether.Given as goal

abbrev pub invariant-loop : goal.invariant-loop
invariant-loop l = (ether_of l.text ≡ ether_behind (5 - l.counter) l.value l.rest) × (l.value < 256 ^ (l.counter + 1))
