use Rattle.lookup_table.proofs.WordLaws.{WordMatched}
use Rattle.lookup_table.proofs.table.FieldTable.match_in.Given as goal

abbrev pub invariant-groups : goal.invariant-groups
invariant-groups l = WordMatched l.self.width l.self.bits l.value l.g l.i l.self.rules l.self.buckets.rows l.word l.left
