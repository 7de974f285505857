use Rattle.lookup_table.proofs.MatchLaws.{Matched}
use Rattle.lookup_table.proofs.table.FieldTable.match_into.Given as goal

abbrev pub invariant-groups : goal.invariant-groups
invariant-groups l = Matched l.self.width l.self.bits l.value l.g l.self.buckets.rows l.initial.row l.row
