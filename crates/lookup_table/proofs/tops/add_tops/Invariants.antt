use Rattle.std.proofs.Common.{◌≡◌, ◌≤◌, length, vec_capacity}
use Rattle.lookup_table.specs.Summary.{ArePages, KeepsTops}
use Rattle.lookup_table.proofs.tops.add_tops.Given as goal

abbrev pub invariant-tops : goal.invariant-tops
invariant-tops l = record {
  long : length l.initial.tops.items ≤ l.n → length l.tops.items ≡ l.q;
  full : vec_capacity l.tops ≡ length l.tops.items;
  tops : ArePages l.bits l.tops.items;
  kept : KeepsTops l.bits l.rules l.pages l.initial.tops.items l.tops.items;
}
