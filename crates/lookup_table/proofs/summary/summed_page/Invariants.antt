use Rattle.std.proofs.Common.{◌≡◌, ◌*◌, true}
use Rattle.lookup_table.specs.Summary.{HasMarks}
use Rattle.lookup_table.proofs.summary.summed_page.Given as goal

abbrev pub invariant-words : goal.invariant-words
invariant-words l = record {
  own : l.page.own ≡ true;
  marks : HasMarks 64 l.width l.bits (512 * l.q) l.buckets.rows l.p l.page.items;
}
