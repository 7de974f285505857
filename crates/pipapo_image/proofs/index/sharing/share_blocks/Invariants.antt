use Rattle.std.proofs.Common.{◌≡◌, ◌<◌, ◌||◌, ℕ, List, length}
use Rattle.std.specs.Prelude.{All}
use Rattle.bit_rows.specs.Row.{at}
use Rattle.lookup_table.specs.Rules.{Stands}
use Rattle.lookup_table.specs.Table.{block_at}
use Rattle.set_model.specs.declared.block.Block.{Block}
use Rattle.set_model.specs.Blocks.{IsWithin}
use Rattle.set_tables.specs.Sharing.{shares_some}
use Rattle.pipapo_image.specs.Index.Room.{HasRoomForRules}
use Rattle.pipapo_image.proofs.index.sharing.share_blocks.Given as goal

abbrev pub invariant-split_blocks : goal.invariant-split_blocks
invariant-split_blocks l = record {
  shared : (rules : List Block) → Stands l.table rules → (r : ℕ) → r < l.table.rules
      → (at l.sum.bits r || shares_some l.block-iterator (block_at rules r)) ≡ shares_some l.fn.split (block_at rules r);
  len : length l.sum.bits ≡ l.table.rules;
  within : All (IsWithin l.table.bits) l.block-iterator;
  one_room : HasRoomForRules l.one;
  rest_room : HasRoomForRules l.rest;
  sum_room : HasRoomForRules l.sum;
}
