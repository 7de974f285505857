use Rattle.lookup_table.proofs.ShareLaws.{WordShared}
use Rattle.lookup_table.proofs.table.FieldTable.share_word.Given as goal

abbrev pub invariant-groups : goal.invariant-groups
invariant-groups l = WordShared l.self.width l.self.bits l.self.rules l.g l.i l.block l.self.buckets.rows l.word l.left
