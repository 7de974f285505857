use Rattle.std.proofs.Common.{◌≡◌, ◌+◌, ◌*◌, ◌<◌, ◌&&◌, ◌||◌, false, ℕ, List}
use Rattle.std.specs.Prelude.{All}
use Rattle.bit_rows.specs.Row.{bit}
use Rattle.lookup_table.specs.Rules.{Stands}
use Rattle.lookup_table.specs.Table.{block_at}
use Rattle.set_model.specs.declared.block.Block.{Block}
use Rattle.set_model.specs.Blocks.{IsWithin}
use Rattle.set_tables.specs.Sharing.{shares_some}
use Rattle.pipapo_image.proofs.index.sharing.share_word_blocks.Given as goal

abbrev pub invariant-split_blocks : goal.invariant-split_blocks
invariant-split_blocks l = record {
  shared : (rules : List Block) → Stands l.table rules → (k : ℕ) → k < 64 → 64 * l.i + k < l.table.rules
      → (bit l.shared k || (bit l.word k && shares_some l.block-iterator (block_at rules (64 * l.i + k)))) ≡ (bit l.word k && shares_some l.fn.split (block_at rules (64 * l.i + k)));
  fewer : (k : ℕ) → k < 64 → bit l.word k ≡ false → bit l.shared k ≡ false;
  within : All (IsWithin l.table.bits) l.block-iterator;
}
