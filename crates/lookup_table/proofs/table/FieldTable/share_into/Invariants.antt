use Rattle.std.proofs.Common.{◌≡◌, ◌+◌, length}
use Rattle.lookup_table.proofs.ShareLaws.{Shared}
use Rattle.lookup_table.proofs.table.FieldTable.share_into.Given as goal

abbrev pub invariant-groups : goal.invariant-groups
invariant-groups l = record {
  shared : Shared l.self.width l.self.bits l.self.rules l.g l.block l.self.buckets.rows l.initial.row l.row;
  rest : length l.rest.bits ≡ l.self.rules;
  room : length l.rest.bits + l.rest.spare ≡ length l.initial.rest.bits + l.initial.rest.spare;
}
