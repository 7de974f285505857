use Rattle.packet_pool.proofs.DrawnNumbers.{drawn_once, no_others, never_wraps}
use Rattle.packet_pool.proofs.laws.drawn_numbers.Goals as goal

pub returns : goal.returns
returns c = record { once = drawn_once; no_others = no_others; no_wrap = never_wraps }
