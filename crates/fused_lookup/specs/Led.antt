-- The first live end during the walk through the last field's rules.
use Rattle.std.specs.Prelude.{◌≡◌, ℕ, ◌+◌, ◌*◌, ◌<◌, ◌≤◌, Bool, true, false, List, length, get_or, replicate, Option, Some, None}
use Rattle.std.specs.List.{zip}
use Rattle.set_model.specs.declared.block.Block.{Block}
use Rattle.set_tables.specs.declared.End.{End}
use Rattle.set_tables.specs.Rows.{is_led, matched, led_to}
use Rattle.lookup_table.specs.declared.table.FieldTable.{FieldTable}
use Rattle.lookup_table.specs.Rules.{Stands}
use Rattle.fused_lookup.specs.Words.{IsWordOf, IsLeft}

-- No rule of the first n is matched and has a live end.
pub record LeadsNowhere (ends : List End) (row : List Bool) (now n : ℕ) : Type 0 where
  pub none : (k : ℕ) → k < n → is_led now (get_or (zip ends row) k (record { place = 0; expiry = None }, false)) ≡ false

-- what the first n rules lead to: nowhere yet, or the place to which all rules lead
abbrev pub IsLed : List End → List Bool → ℕ → ℕ → Option ℕ → Type 0
IsLed ends row now n None = LeadsNowhere ends row now n
IsLed ends row now n (Some place) = Some place ≡ led_to ends row now

-- If the rules before word i of a row lead nowhere, they and the word's rules lead here.
abbrev pub LeadsWord : List End → ℕ → ℕ → ℕ → Option ℕ → Type 0
LeadsWord ends i word now found = (row : List Bool) → length row ≡ length ends → IsWordOf row i word → LeadsNowhere ends row now (64 * i) → IsLed ends row now (64 * (i + 1)) found

-- The rules of the row whose blocks pass the test lead there.
abbrev pub Leads : FieldTable → List End → (Block → Bool) → List Bool → ℕ → Option ℕ → Type 0
Leads t ends test row now found = (blocks : List Block) → Stands t blocks → found ≡ led_to ends (matched test blocks row) now

-- A word of the rules that may be left is matched. The rules before it and what is left of it lead
-- here.
abbrev pub LeadsOn : FieldTable → List End → (Block → Bool) → ℕ → ℕ → ℕ → Option ℕ → Option ℕ → Type 0
LeadsOn t ends test i left now before after = (blocks : List Block) (row : List Bool) → Stands t blocks → t.rules ≤ length row → IsLeft t.rules row i left
    → IsLed ends (matched test blocks row) now (64 * i) before → IsLed ends (matched test blocks row) now (64 * (i + 1)) after

-- The words of all rules from `from` up to `to` are matched. If the rules before them lead nowhere,
-- they lead here.
abbrev pub LeadsWords : FieldTable → List End → (Block → Bool) → ℕ → ℕ → ℕ → Option ℕ → Type 0
LeadsWords t ends test from to now found = (blocks : List Block) → Stands t blocks
    → LeadsNowhere ends (matched test blocks (replicate t.rules true)) now (64 * from) → IsLed ends (matched test blocks (replicate t.rules true)) now (64 * to) found
