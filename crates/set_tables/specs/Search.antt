-- The lookup in tables, field by field. It matches a field's rules, and refills the next field's
-- row from the spans of the matched ones. In the last field it takes the first live end.
use Rattle.std.specs.Prelude.{◌≡◌, ℕ, zero, suc, ◌+◌, ◌-◌, ◌<◌, ◌≤◌, Bool, true, List, [], length, replicate, Option, slice_index_or, slice_index, All}
use Rattle.set_model.specs.declared.block.Block.{Block}
use Rattle.set_model.specs.Blocks.{holds_value}
use Rattle.set_model.specs.SetState.{rules_limit}
use Rattle.set_tables.specs.declared.Span.{Span}
use Rattle.set_tables.specs.Rows.{matched, refilled, led_to}
use Rattle.set_tables.specs.Tables.{Tables}

-- the list of field f, or an empty list after the last field
abbrev pub of_field : {X : Type 0} → List (List X) → ℕ → List X
of_field lists f = slice_index_or lists f []

-- a test of blocks for each field: the block holds the key's value there
abbrev pub key_tests : List ℕ → ℕ → Block → Bool
key_tests key f b = holds_value b (slice_index key f)

-- the row after field f
abbrev pub row_behind : (ℕ → Block → Bool) → List (List Block) → List (List Span) → ℕ → List Bool
row_behind tests rules maps zero = matched (tests 0) (of_field rules 0) (replicate (length (of_field rules 0)) true)
row_behind tests rules maps (suc f) =
    matched (tests (suc f)) (of_field rules (suc f)) (refilled (of_field maps f) (row_behind tests rules maps f) (length (of_field rules (suc f))))

-- the place that a walk through the tables with these tests leads to
abbrev pub searched : (ℕ → Block → Bool) → Tables → ℕ → Option ℕ
searched tests t now = led_to t.ends (row_behind tests t.rules t.maps (length t.rules - 1)) now

-- There is one list of spans fewer than lists of rules. Each rule has one span, within the next
-- field's rules, and each rule of the last field has one end. No field has too many rules.
pub record AreShaped (t : Tables) : Type 0 where
  pub one_fewer : length t.maps + 1 ≡ length t.rules
  pub one_each : (f : ℕ) → f < length t.maps → length (of_field t.maps f) ≡ length (of_field t.rules f)
  pub inside : (f : ℕ) → f < length t.maps → All (λ s. s.first + s.count ≤ length (of_field t.rules (suc f))) (of_field t.maps f)
  pub few : (f : ℕ) → f < length t.rules → length (of_field t.rules f) ≤ rules_limit
  pub one_end_each : length t.ends ≡ length (of_field t.rules (length t.rules - 1))
