-- Room for a field's rules.
use Rattle.std.specs.Prelude.{◌≡◌, ◌+◌, length}
use Rattle.bit_rows.specs.Row.{Row}
use Rattle.set_model.specs.SetState.{rules_limit}
use Rattle.fused_lookup.specs.Filled.{IsClear}

-- The row has room for exactly as many rules as a field can have. A call that took memory would
-- change this room.
pub record HasRoomForRules (row : Row) : Type 0 where
  pub room : length row.bits + row.spare ≡ rules_limit

-- The row has one place for each rule that a field can have, and no room for more. No place is set.
pub record IsBlank (row : Row) : Type 0 where
  pub long : length row.bits ≡ rules_limit
  pub full : row.spare ≡ 0
  pub clear : IsClear row.bits
