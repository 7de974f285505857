-- What contracts say of a table, of its changes and of a row of its rules.
use Rattle.std.specs.Prelude.{◌≡◌, ℕ, ◌+◌, ◌*◌, ◌/◌, ◌<◌, ◌≤◌, Bool, true, false, ◌&&◌, List, ◌++◌, get_or}
use Rattle.set_model.specs.declared.block.Block.{Block}
use Rattle.set_model.specs.Runs.{without_run}
use Rattle.bit_rows.specs.Row.{Row, at, bit}
use Rattle.shared_pages.specs.Paged.{owns_of}
use Rattle.field_groups.specs.Groups.{group, every}
use Rattle.lookup_table.specs.declared.table.FieldTable.{FieldTable}
use Rattle.lookup_table.specs.Lines.{OwnsNoPage}
use Rattle.lookup_table.specs.Table.{StandsFor, bucket_place, cell, block_at}

-- the table represents these blocks, one per rule
abbrev pub Stands : FieldTable → List Block → Type 0
Stands t blocks = StandsFor t.width t.bits t.rules t.buckets.rows blocks

-- both tables are of the same field, in groups of the same width
pub record IsSameField (old new : FieldTable) : Type 0 where
  pub width : new.width ≡ old.width
  pub bits : new.bits ≡ old.bits

-- The pages of the rules from `from` up to `to`, and of the summary above them, are the table's own.
pub record IsOwn (from to : ℕ) (t : FieldTable) : Type 0 where
  pub rows : (r : ℕ) → from ≤ r → r < to → get_or t.buckets.own (r / 512) true ≡ true
  pub marks : (r : ℕ) → from ≤ r → r < to → get_or (owns_of t.pages.items) (r / 4096) true ≡ true
  pub tops : (r : ℕ) → from ≤ r → r < to → get_or (owns_of t.tops.items) (r / 262144) true ≡ true

-- No page is the table's own: a copy takes a count for each.
pub record IsShared (t : FieldTable) : Type 0 where
  pub rows : OwnsNoPage t.buckets.own
  pub marks : OwnsNoPage (owns_of t.pages.items)
  pub tops : OwnsNoPage (owns_of t.tops.items)

-- Each page that was the old table's own is the new table's own.
pub record IsAsOwn (old new : FieldTable) : Type 0 where
  pub rows : new.buckets.own ≡ old.buckets.own
  pub marks : owns_of new.pages.items ≡ owns_of old.pages.items
  pub tops : owns_of new.tops.items ≡ owns_of old.tops.items

-- The new table represents each list of blocks that the old one represents.
abbrev pub KeepsRules : FieldTable → FieldTable → Type 0
KeepsRules old new = (blocks : List Block) → Stands old blocks → Stands new blocks

-- If the old table represents some blocks, the new table represents these and then the added
-- blocks.
abbrev pub AppendsRules : FieldTable → FieldTable → List Block → Type 0
AppendsRules old new added = (blocks : List Block) → Stands old blocks → Stands new (blocks ++ added)

-- If the old table represents some blocks, the new table represents them without the n from `first`
-- on.
abbrev pub DropsRules : FieldTable → FieldTable → ℕ → ℕ → Type 0
DropsRules old new first n = (blocks : List Block) → Stands old blocks → Stands new (without_run blocks first n)

-- the place of the bucket of a value's group g
abbrev pub place_of : FieldTable → ℕ → ℕ → ℕ
place_of t g value = bucket_place t.width g (group t.width t.bits g value)

-- Rule r is set in the bucket of the value's group g.
abbrev pub is_rule_set : FieldTable → ℕ → ℕ → ℕ → Bool
is_rule_set t value r g = cell t.buckets.rows (place_of t g value) r

-- A bit of word i stays set exactly if its rule is also set in the buckets of the first n groups.
-- If there is such a group, no bit past the last rule is set.
pub record IsSieved (t : FieldTable) (value n i old new : ℕ) : Type 0 where
  pub kept : (k : ℕ) → k < 64 → bit new k ≡ (bit old k && every (is_rule_set t value (64 * i + k)) n)
  pub past : 0 < n → (k : ℕ) → k < 64 → t.rules ≤ 64 * i + k → bit new k ≡ false

-- Bit r of the row stays set exactly if the test passes for rule r's block.
abbrev pub KeepsWhere : FieldTable → (Block → Bool) → Row → Row → Type 0
KeepsWhere t test old new = (blocks : List Block) → Stands t blocks
    → (r : ℕ) → r < t.rules → at new.bits r ≡ (at old.bits r && test (block_at blocks r))

-- The same for a word of rules, whose bit 0 is rule 64 * i.
abbrev pub KeepsBitsWhere : FieldTable → (Block → Bool) → ℕ → ℕ → ℕ → Type 0
KeepsBitsWhere t test i old new = (blocks : List Block) → Stands t blocks
    → (k : ℕ) → k < 64 → 64 * i + k < t.rules → bit new k ≡ (bit old k && test (block_at blocks (64 * i + k)))
