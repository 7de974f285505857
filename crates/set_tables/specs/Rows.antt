-- What matching, refilling and the search of the ends do to rows. How spans and ends change.
use Rattle.std.specs.Prelude.{ℕ, ◌+◌, ◌-◌, Bool, ◌&&◌, nat_lt, nat_le, List, ◌++◌, take, drop, map, Option, option_map, find}
use Rattle.std.specs.List.{zip, list_any, range_with_len}
use Rattle.set_model.specs.declared.block.Block.{Block}
use Rattle.set_model.specs.Expiry.{lives}
use Rattle.set_tables.specs.declared.Span.{Span}
use Rattle.set_tables.specs.declared.End.{End}

-- A bit stays set if its rule's block passes the test.
abbrev pub matched : (Block → Bool) → List Block → List Bool → List Bool
matched test blocks row = map (λ p. p.1 && test p.0) (zip blocks row)

-- A span holds rule r of the next field.
abbrev pub span_holds : ℕ → Span → Bool
span_holds r s = nat_le s.first r && nat_lt r (s.first + s.count)

-- The rule of this span is matched, and the span holds rule r of the next field.
abbrev pub reaches : ℕ → Span × Bool → Bool
reaches r p = p.1 && span_holds r p.0

-- The span of some matched rule holds rule r of the next field.
abbrev pub reached : List Span → List Bool → ℕ → Bool
reached spans row r = list_any (reaches r) (zip spans row)

-- the row of the next field, which has n rules: a bit is set if it is in the span of some matched
-- rule
abbrev pub refilled : List Span → List Bool → ℕ → List Bool
refilled spans row n = map (reached spans row) (range_with_len 0 n)

-- The rule of this end is matched, and its element is live.
abbrev pub is_led : ℕ → End × Bool → Bool
is_led now p = p.1 && lives p.0.expiry now

-- the place of the element of the lowest matched rule whose end is live
abbrev pub led_to : List End → List Bool → ℕ → Option ℕ
led_to ends row now = option_map (λ p. p.0.place) (find (is_led now) (zip ends row))

-- a span that begins k rules lower
abbrev pub lowered : ℕ → Span → Span
lowered k s = record { first = s.first - k; count = s.count }

-- an end whose element has a place one lower
abbrev pub lowered_place : End → End
lowered_place e = record { place = e.place - 1; expiry = e.expiry }

-- The n rules from `first` on are removed. The next field has next_n fewer rules before the later
-- ones.
abbrev pub spans_without : List Span → ℕ → ℕ → ℕ → List Span
spans_without spans first n next_n = take first spans ++ map (lowered next_n) (drop (first + n) spans)

-- The n rules from `first` on, of one element, are removed.
abbrev pub ends_without : List End → ℕ → ℕ → List End
ends_without ends first n = take first ends ++ map lowered_place (drop (first + n) ends)

-- an end with another expiry
abbrev pub end_renewed : Option ℕ → End → End
end_renewed expiry e = record { place = e.place; expiry = expiry }

-- The n ends from `first` on have another expiry.
abbrev pub ends_renewed : List End → ℕ → ℕ → Option ℕ → List End
ends_renewed ends first n expiry = take first ends ++ map (end_renewed expiry) (take n (drop first ends)) ++ drop (first + n) ends
