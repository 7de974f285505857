-- The words of rules that may have a rule that holds a value.
use Rattle.std.specs.Prelude.{◌≡◌, ℕ, ◌+◌, ◌*◌, ◌/◌, ◌<◌, false, List}
use Rattle.set_model.specs.declared.block.Block.{Block}
use Rattle.set_model.specs.Blocks.{holds_value}
use Rattle.bit_rows.specs.Row.{bit}
use Rattle.lookup_table.specs.declared.table.FieldTable.{FieldTable}
use Rattle.lookup_table.specs.Table.{block_at}
use Rattle.lookup_table.specs.Rules.{Stands}

-- Takes the 64 words of `unit` rules from word 64 * p on. A word that is no candidate has no rule
-- that holds the value.
abbrev pub LeavesNone : FieldTable → ℕ → ℕ → ℕ → ℕ → Type 0
LeavesNone t value unit p candidates = (blocks : List Block) → Stands t blocks
    → (k r : ℕ) → k < 64 → bit candidates k ≡ false → r < t.rules → r / unit ≡ 64 * p + k → holds_value (block_at blocks r) value ≡ false
