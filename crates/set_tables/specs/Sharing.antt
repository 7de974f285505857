-- The walk by intervals instead of a key: which rules share a value with a block of the intervals.
use Rattle.std.specs.Prelude.{ℕ, Bool, List}
use Rattle.std.specs.List.{list_any}
use Rattle.set_model.specs.declared.kind.Kind.{Kind}
use Rattle.set_model.specs.declared.kind.Interval.{Interval}
use Rattle.set_model.specs.declared.block.Block.{Block}
use Rattle.set_model.specs.SetState.{field_blocks}
use Rattle.field_groups.specs.Groups.{share_value}

-- A block shares a value with some block of a list.
abbrev pub shares_some : List Block → Block → Bool
shares_some blocks b = list_any (λ other. share_value b other) blocks

-- a test of blocks for each field: the block shares a value with some block of the interval there
abbrev pub share_tests : List Kind → List Interval → ℕ → Block → Bool
share_tests kinds parts f b = shares_some (field_blocks kinds f parts) b
