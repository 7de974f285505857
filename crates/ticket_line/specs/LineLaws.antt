-- What each step of a ticket lock does to the line.
use Rattle.std.specs.Prelude.{◌≡◌, ◌≢◌, ℕ, ◌+◌, ◌%◌, ◌<◌, List, [], ◌∷◌, ◌++◌, length, slice_index, slice_set}
use mathlib.Core.Option.{some}
use lib.ListN.{get_elem?}
use Rattle.ticket_line.specs.Tickets.{InLine, behind_first}

-- At the start nobody has a ticket.
abbrev pub Opens : Type 0 → Type 0
Opens D = (stage ticket : D → ℕ) (w : D) → stage w < 2 → InLine stage ticket (0 ∷ 0 ∷ []) (w ∷ []) []

-- A seat without a ticket adds 1 to word 0. The old word is its ticket, and the seat goes to the
-- end of the line.
abbrev pub DrawKeeps : Type 0 → Type 0
DrawKeeps D = (stage ticket : D → ℕ) (words : List ℕ) (views : List D) (line : List ℕ) → InLine stage ticket words views line → (id : ℕ) (d w : D) → get_elem? views id ≡ some d → stage d < 2 → stage w ≡ 2 → ticket w ≡ slice_index words 0 → length line < 18446744073709551616
    → (next : ℕ) → next ≡ (slice_index words 0 + 1) % 18446744073709551616 → InLine stage ticket (slice_set words 0 next) (slice_set views id w) (line ++ id ∷ [])

-- A seat that finds its own ticket in word 1 is served from then on, and no other seat is.
abbrev pub LookKeeps : Type 0 → Type 0
LookKeeps D = (stage ticket : D → ℕ) (words : List ℕ) (views : List D) (line : List ℕ) → InLine stage ticket words views line → (id : ℕ) (d w : D) → get_elem? views id ≡ some d → stage d ≡ 2 → ticket d ≡ slice_index words 1 → length line < 18446744073709551616 → stage w ≡ 3 → ticket w ≡ ticket d
    → InLine stage ticket words (slice_set views id w) line × ((j : ℕ) (e : D) → get_elem? views j ≡ some e → stage e ≢ 3)

-- The served seat stores the next ticket in word 1, and leaves the line.
abbrev pub DoneKeeps : Type 0 → Type 0
DoneKeeps D = (stage ticket : D → ℕ) (words : List ℕ) (views : List D) (line : List ℕ) (id : ℕ) (d w : D) (next : ℕ) → get_elem? views id ≡ some d → InLine stage ticket words views line → stage d ≡ 3 → stage w < 2 → next ≡ (slice_index words 1 + 1) % 18446744073709551616
    → InLine stage ticket (slice_set words 1 next) (slice_set views id w) (behind_first line)

-- A seat without a ticket has another view without one.
abbrev pub RestKeeps : Type 0 → Type 0
RestKeeps D = (stage ticket : D → ℕ) (words : List ℕ) (views : List D) (line : List ℕ) → InLine stage ticket words views line → (id : ℕ) (d w : D) → get_elem? views id ≡ some d → stage d < 2 → stage w < 2 → InLine stage ticket words (slice_set views id w) line

-- A seat has another view with the ticket that it had.
abbrev pub StayKeeps : Type 0 → Type 0
StayKeeps D = (stage ticket : D → ℕ) (words : List ℕ) (views : List D) (line : List ℕ) → InLine stage ticket words views line → (id : ℕ) (d w : D) → get_elem? views id ≡ some d → stage w ≡ stage d → ticket w ≡ ticket d → InLine stage ticket words (slice_set views id w) line

-- One more seat, without a ticket.
abbrev pub SeatKeeps : Type 0 → Type 0
SeatKeeps D = (stage ticket : D → ℕ) (words : List ℕ) (views : List D) (line : List ℕ) (w : D) → InLine stage ticket words views line → stage w < 2 → InLine stage ticket words (views ++ w ∷ []) line
