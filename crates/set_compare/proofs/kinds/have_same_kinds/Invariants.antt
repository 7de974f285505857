use Rattle.std.proofs.Common.{◌≡◌, take}
use Rattle.set_compare.proofs.kinds.have_same_kinds.Given as goal

abbrev pub invariant-kinds : goal.invariant-kinds
invariant-kinds l = take l.f l.kinds ≡ take l.f l.others
