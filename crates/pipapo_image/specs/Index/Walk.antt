-- What a walk through lookup tables and mappings relies on.
use Rattle.std.specs.Prelude.{◌≡◌, ℕ, ◌+◌, ◌^◌, ◌<◌, ◌≤◌, List, length, All, slice_index, get_or}
use Rattle.lookup_table.specs.declared.table.FieldTable.{FieldTable}
use Rattle.mapping_table.specs.Spared.{Spared}
use Rattle.set_model.specs.SetState.{rules_limit}
use Rattle.set_tables.specs.declared.Span.{Span}
use Rattle.fused_lookup.specs.Filled.{AreChained}

-- There is one mapping fewer than fields. A mapping has one span for each rule of its field, within
-- the next field's rules, and those of neighbouring rules are neighbours. No field has too many
-- rules.
pub record IsWalk (fields : List FieldTable) (maps : List (Spared Span)) : Type 0 where
  pub one_fewer : length maps + 1 ≡ length fields
  pub few : (f : ℕ) (t : FieldTable) → f < length fields → (get_or fields f t).rules ≤ rules_limit
  pub one_each : (f : ℕ) (t : FieldTable) (m : Spared Span) → f < length maps → length (get_or maps f m).items ≡ (get_or fields f t).rules
  pub inside : (f : ℕ) (t : FieldTable) (m : Spared Span) → f < length maps → All (λ s. s.first + s.count ≤ (get_or fields (f + 1) t).rules) (get_or maps f m).items
  pub chained : (f : ℕ) (m : Spared Span) → f < length maps → AreChained (get_or maps f m).items

-- A key has one value per field, within the field's bits.
pub record IsKeyOf (fields : List FieldTable) (key : List ℕ) : Type 0 where
  pub one_each : length key ≡ length fields
  pub within : (f : ℕ) (t : FieldTable) → f < length fields → slice_index key f < 2 ^ (get_or fields f t).bits

-- No field has more than 128 rules, so a number of 128 bits is a whole row.
pub record AreSmall (fields : List FieldTable) : Type 0 where
  pub few : (f : ℕ) (t : FieldTable) → f < length fields → (get_or fields f t).rules ≤ 128
