-- The law that lookups rest on.
use Rattle.std.specs.Prelude.{◌≡◌, ℕ, ◌/◌, ◌^◌, ◌<◌, List}
use Rattle.set_model.specs.declared.block.Block.{Block}
use Rattle.set_model.specs.Blocks.{holds_value}
use Rattle.field_groups.specs.Groups.{group, every}
use Rattle.lookup_table.specs.declared.table.FieldTable.{FieldTable}
use Rattle.lookup_table.specs.Table.{bucket_place, block_at, cell}
use Rattle.lookup_table.specs.Rules.{Stands}

-- A rule's block holds a value exactly if the rule is set in the value's bucket of each group.
abbrev pub HeldByBuckets : Type 0
HeldByBuckets = (t : FieldTable) (blocks : List Block) (value r : ℕ) → Stands t blocks → value < 2 ^ t.bits → r < t.rules
    → every (λ g. cell t.buckets.rows (bucket_place t.width g (group t.width t.bits g value)) r) (t.bits / t.width) ≡ holds_value (block_at blocks r) value
