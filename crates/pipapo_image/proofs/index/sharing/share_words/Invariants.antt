use Rattle.std.proofs.Common.{◌≡◌, ◌+◌, ◌-◌, ◌%◌, ◌≤◌}
use Rattle.set_model.specs.Blocks.{blocks}
use Rattle.set_tables.specs.Sharing.{shares_some}
use Rattle.pipapo_image.proofs.SharingRows.{IsSharedUpTo}
use Rattle.pipapo_image.proofs.index.sharing.share_words.Given as goal

abbrev pub invariant-words : goal.invariant-words
invariant-words l = record {
  shared : IsSharedUpTo l.table (shares_some (blocks l.part.low l.part.high l.table.bits)) l.from l.initial.row.bits l.row.bits;
  within : l.from ≤ l.table.rules + 63;
  whole : l.from % 64 ≡ 0;
  spare : l.row.spare ≡ l.initial.row.spare;
}

abbrev pub decreases-words : goal.decreases-words
decreases-words l = l.table.rules + 64 - l.from
