-- A line of seats with tickets, as a ticket lock keeps it. Word 0 is the next ticket, and word 1
-- the one that is served. A seat that draws a ticket goes to the end of the line. The first seat of
-- the line may be served, and leaves the line when it is done.
use Rattle.std.specs.Prelude.{◌≡◌, ℕ, zero, suc, ◌+◌, ◌%◌, ◌<◌, List, [], ◌∷◌, length, slice_index}
use Rattle.std.specs.List.{sum_by}
use mathlib.Core.Option.{some}
use lib.ListN.{get_elem?}

-- the line without its first seat
abbrev pub behind_first : List ℕ → List ℕ
behind_first [] = []
behind_first (j ∷ line) = line

-- A seat's stage is 1 without a ticket, 2 while it waits with a ticket, and 3 while it is served.
-- It has this many tickets.
abbrev pub tickets_at : ℕ → ℕ
tickets_at zero = 0
tickets_at (suc zero) = 0
tickets_at (suc (suc n)) = 1

module _ {D : Type 0} (stage ticket : D → ℕ) where
  -- how many seats have a ticket
  abbrev pub waiting : List D → ℕ
  waiting views = sum_by (λ d. tickets_at (stage d)) views

  -- The tickets that are out are exactly the numbers from the served one up to the next one, modulo
  -- 2 ^ 64. The line has a seat for each, in their order. Each seat with a ticket is in it once,
  -- and only the first is served.
  pub record InLine (words : List ℕ) (views : List D) (line : List ℕ) : Type 0 where
    pub wide : length words ≡ 2
    pub small : slice_index words 1 < 18446744073709551616
    pub next : slice_index words 0 ≡ (slice_index words 1 + length line) % 18446744073709551616
    pub count : length line ≡ waiting views
    pub each : (p j : ℕ) → get_elem? line p ≡ some j → (d : D) × (get_elem? views j ≡ some d) × (1 < stage d) × (ticket d ≡ (slice_index words 1 + p) % 18446744073709551616)
    pub waits : (j : ℕ) (d : D) → get_elem? views j ≡ some d → 1 < stage d → (p : ℕ) × (get_elem? line p ≡ some j)
    pub apart : (p q j : ℕ) → get_elem? line p ≡ some j → get_elem? line q ≡ some j → p ≡ q
    pub first : (p j : ℕ) (d : D) → get_elem? line p ≡ some j → get_elem? views j ≡ some d → stage d ≡ 3 → p ≡ 0
