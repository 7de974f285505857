use Rattle.std.proofs.Common.{◌≡◌, ◌-◌, take}
use Rattle.mapping_table.specs.Spared.{word_of}
use Rattle.mapping_table.specs.Latest.{latest_end}
use Rattle.mapping_table.proofs.latest.latest_end.Given as goal

abbrev pub invariant-ends : goal.invariant-ends
invariant-ends l = l.latest ≡ latest_end (take (l.i - l.first) (word_of l.w l.ends.items))
