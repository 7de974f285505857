-- What a new element does to an index.
use Rattle.std.specs.Prelude.{◌≡◌, ℕ, ◌+◌, ◌-◌, ◌<◌, ◌≤◌, List, ◌++◌, length, replicate, get_or, Option, None}
use Rattle.set_model.specs.declared.block.Block.{Block}
use Rattle.set_model.specs.SetState.{rules_limit}
use Rattle.lookup_table.specs.declared.table.FieldTable.{FieldTable}
use Rattle.mapping_table.specs.Spared.{Spared}
use Rattle.set_tables.specs.declared.Span.{Span}
use Rattle.set_tables.specs.declared.End.{End}
use Rattle.set_tables.specs.Search.{of_field}
use Rattle.pipapo_image.specs.declared.index.Index.{Index}
use Rattle.pipapo_image.specs.Index.Built.{Passed, EachChanged}
use Rattle.pipapo_image.specs.Index.Grow.{HasSpare, IsKept, IsReady, IsGrownBy, chosen, counts, new_span}

-- one column for each field, which doesn't give the field too many rules
pub record AreColumnsOf (index : Index) (columns : List (List Block)) : Type 0 where
  pub one_each : length columns ≡ length index.fields
  pub few : (f : ℕ) (t : FieldTable) → f < length index.fields → (get_or index.fields f t).rules + length (of_field columns f) ≤ rules_limit
  pub narrow : (f : ℕ) → f < length columns → length (of_field columns f) ≤ rules_limit

-- the same index, maybe with other room
pub record IsSameIndex (old new : Index) : Type 0 where
  pub fields : EachChanged IsKept old.fields new.fields
  pub maps : EachChanged (λ a b. b.items ≡ a.items) old.maps new.maps
  pub ends : new.ends.items ≡ old.ends.items

-- Each part has room for its column.
pub record HasRoomFor (index : Index) (columns : List (List Block)) : Type 0 where
  pub fields : (f : ℕ) (t : FieldTable) → f < length index.fields → HasSpare (length (of_field columns f)) (get_or index.fields f t)
  pub maps : (f : ℕ) (m : Spared Span) → f < length index.maps → length (of_field columns f) ≤ (get_or index.maps f m).spare
  pub ends : length (of_field columns (length columns - 1)) ≤ index.ends.spare

-- Each table, or its replacement, has room for its column.
pub record AreReady (index : Index) (others : List (Option FieldTable)) (columns : List (List Block)) : Type 0 where
  pub one_each : length others ≡ length index.fields
  pub ready : (f : ℕ) (t : FieldTable) → f < length index.fields → IsReady (of_field columns f) (chosen (get_or others f None) (get_or index.fields f t))

-- Each part has one more column.
pub record IsAppended (old new : Index) (others : List (Option FieldTable)) (columns : List (List Block)) (end : End) : Type 0 where
  pub fields : Passed (λ f a b. IsGrownBy (of_field columns f) (chosen (get_or others f None) a) b) old.fields new.fields (length old.fields)
  pub maps : Passed (λ f a b. b.items ≡ a.items ++ replicate (length (of_field columns f)) (new_span (counts old.fields) columns f)) old.maps new.maps (length old.maps)
  pub ends : new.ends.items ≡ old.ends.items ++ replicate (length (of_field columns (length columns - 1))) end
