use Rattle.std.proofs.Common.{◌≡◌, length}
use Rattle.std.specs.Vec.{vec_capacity}
use Rattle.mapping_table.specs.Latest.{AreRaised}
use Rattle.mapping_table.proofs.latest.raise.Given as goal

abbrev pub invariant-words : goal.invariant-words
invariant-words l = record {
  items : AreRaised l.from l.w l.moment l.fn.latest.items l.latest.items;
  len : length l.latest.items ≡ length l.fn.latest.items;
  capacity : vec_capacity l.latest ≡ vec_capacity l.fn.latest;
}
