-- The next field's row during the walk through a field's rules.
use Rattle.std.specs.Prelude.{◌≡◌, ℕ, ◌+◌, ◌*◌, ◌<◌, ◌≤◌, Bool, true, false, List, length, take, replicate, get_or}
use Rattle.std.specs.List.{zip, list_any}
use Rattle.bit_rows.specs.Row.{at}
use Rattle.set_model.specs.declared.block.Block.{Block}
use Rattle.set_tables.specs.declared.Span.{Span}
use Rattle.set_tables.specs.Rows.{reaches, matched, refilled}
use Rattle.lookup_table.specs.declared.table.FieldTable.{FieldTable}
use Rattle.lookup_table.specs.Rules.{Stands}
use Rattle.fused_lookup.specs.Words.{IsWordOf, IsLeft}

-- nothing is set
pub record IsClear (bits : List Bool) : Type 0 where
  pub places : (i : ℕ) → at bits i ≡ false

-- A rule's span begins in the span of the rule before it, or right after it, and ends no earlier.
-- So neighbouring rules lead to one run of rules. This is so in tables of elements: the spans of an
-- element are the same, and the next element's begin after them.
pub record AreChained (spans : List Span) : Type 0 where
  pub low : (r : ℕ) (s : Span) → r + 1 < length spans → (get_or spans r s).first ≤ (get_or spans (r + 1) s).first
  pub near : (r : ℕ) (s : Span) → r + 1 < length spans → (get_or spans (r + 1) s).first ≤ (get_or spans r s).first + (get_or spans r s).count
  pub high : (r : ℕ) (s : Span) → r + 1 < length spans → (get_or spans r s).first + (get_or spans r s).count ≤ (get_or spans (r + 1) s).first + (get_or spans (r + 1) s).count

-- The span of some matched rule among the first n holds rule r of the next field.
abbrev pub reached_by : List Span → List Bool → ℕ → ℕ → Bool
reached_by spans row n r = list_any (reaches r) (take n (zip spans row))

-- the next field's row has what the first n rules reach, and nothing else
pub record IsFilled (spans : List Span) (row : List Bool) (n : ℕ) (next : List Bool) : Type 0 where
  pub places : (r : ℕ) → at next r ≡ reached_by spans row n r

-- Word i of a row goes into the next row. If the next row has what the rules before the word reach,
-- it then has what the word's rules reach, too.
abbrev pub FillsWord : List Span → ℕ → ℕ → List Bool → List Bool → Type 0
FillsWord spans i word old new = (row : List Bool) → length row ≡ length spans → IsWordOf row i word → IsFilled spans row (64 * i) old → IsFilled spans row (64 * (i + 1)) new

-- The next row is refilled from the rules of the row whose blocks pass the test.
abbrev pub Refills : FieldTable → List Span → (Block → Bool) → List Bool → List Bool → Type 0
Refills t spans test row next = (blocks : List Block) → Stands t blocks → next ≡ refilled spans (matched test blocks row) (length next)

-- A word of the rules that may be left is matched. What is left of it goes into the next row.
abbrev pub RefillsWord : FieldTable → List Span → (Block → Bool) → ℕ → ℕ → List Bool → List Bool → Type 0
RefillsWord t spans test i left old new = (blocks : List Block) (row : List Bool) → Stands t blocks → t.rules ≤ length row → IsLeft t.rules row i left
    → IsFilled spans (matched test blocks row) (64 * i) old → IsFilled spans (matched test blocks row) (64 * (i + 1)) new

-- The words of all rules from `from` up to `to` are matched. What is left of them goes into the
-- next row.
abbrev pub RefillsWords : FieldTable → List Span → (Block → Bool) → ℕ → ℕ → List Bool → List Bool → Type 0
RefillsWords t spans test from to old new = (blocks : List Block) → Stands t blocks
    → IsFilled spans (matched test blocks (replicate t.rules true)) (64 * from) old → IsFilled spans (matched test blocks (replicate t.rules true)) (64 * to) new
