-- What the rules of a new element do to the parts of an index.
use Rattle.std.specs.Prelude.{◌≡◌, ℕ, ◌+◌, ◌≤◌, List, ◌++◌, length, map, get_or, slice_index, Option, Some, None, All, Bool, nat_lt}
use Rattle.set_model.specs.declared.block.Block.{Block}
use Rattle.set_model.specs.declared.kind.Kind.{Kind}
use Rattle.set_model.specs.declared.kind.Interval.{Interval}
use Rattle.set_model.specs.Blocks.{IsWithin}
use Rattle.set_model.specs.Kind.{bits_of}
use Rattle.set_model.specs.SetState.{field_blocks, rules_limit}
use Rattle.lookup_table.specs.declared.table.FieldTable.{FieldTable}
use Rattle.lookup_table.specs.Rules.{Stands, KeepsRules, IsOwn}
use Rattle.lookup_table.specs.Width.{width_of}
use Rattle.set_tables.specs.declared.Span.{Span}
use Rattle.set_tables.specs.Search.{of_field}

-- The column of field f: the blocks of a new element's interval there.
pub record IsColumn (kinds : List Kind) (parts : List Interval) (f : ℕ) (column : List Block) : Type 0 where
  pub split : column ≡ field_blocks kinds f parts
  pub within : (k : Kind) → All (IsWithin (bits_of (get_or kinds f k))) column

-- Each bucket of the table has room for n more rules, on pages that are the table's own.
pub record HasSpare (n : ℕ) (t : FieldTable) : Type 0 where
  pub rows : All (λ row. n ≤ row.spare) t.buckets.rows
  pub own : IsOwn t.rules (t.rules + n) t

-- the same table, maybe with other room
pub record IsKept (a b : FieldTable) : Type 0 where
  pub width : b.width ≡ a.width
  pub bits : b.bits ≡ a.bits
  pub rules : b.rules ≡ a.rules
  pub stands : KeepsRules a b

-- the same rules in groups of the width for n more rules, with room for these
pub record IsRewidened (n : ℕ) (t u : FieldTable) : Type 0 where
  pub width : u.width ≡ width_of t.bits (t.rules + n)
  pub bits : u.bits ≡ t.bits
  pub rules : u.rules ≡ t.rules
  pub stands : KeepsRules t u
  pub spare : HasSpare n u

-- a table of another width, if n more rules need one
abbrev pub IsOther : ℕ → FieldTable → Option FieldTable → Type 0
IsOther n t None = t.width ≡ width_of t.bits (t.rules + n)
IsOther n t (Some u) = IsRewidened n t u

-- the replacement, if there is one
abbrev pub chosen : Option FieldTable → FieldTable → FieldTable
chosen None t = t
chosen (Some u) t = u

-- the table with the rules of one more column
pub record IsGrownBy (column : List Block) (a b : FieldTable) : Type 0 where
  pub width : b.width ≡ a.width
  pub bits : b.bits ≡ a.bits
  pub rules : b.rules ≡ a.rules + length column
  pub stands : (blocks : List Block) → Stands a blocks → Stands b (blocks ++ column)

-- how many rules each field has
abbrev pub counts : List FieldTable → List ℕ
counts fields = map (λ t. t.rules) fields

-- the span of a new rule of field f, which is the new rules of the next field
abbrev pub new_span : List ℕ → List (List Block) → ℕ → Span
new_span counts columns f = record { first = slice_index counts (f + 1); count = length (of_field columns (f + 1)) }

-- The table has room for its column.
pub record IsReady (column : List Block) (t : FieldTable) : Type 0 where
  pub spare : HasSpare (length column) t
  pub within : All (IsWithin t.bits) column

-- Field f would have too many rules.
abbrev pub is_over : List ℕ → List (List Block) → ℕ → Bool
is_over counts columns f = nat_lt rules_limit (slice_index counts f + length (of_field columns f))
