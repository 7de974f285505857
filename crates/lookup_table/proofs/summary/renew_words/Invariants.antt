use Rattle.std.proofs.Common.{◌≡◌, true}
use Rattle.lookup_table.proofs.SummaryLaws.{LinesDone}
use Rattle.lookup_table.proofs.summary.renew_words.Given as goal

abbrev pub invariant-lines : goal.invariant-lines
invariant-lines l = record {
  own : l.page.own ≡ true;
  lines : LinesDone l.width l.bits l.q l.j l.buckets.rows l.initial.page.items l.page.items;
}
