-- What a line says of its seats, and what a step of one seat leaves of the others.
use Rattle.std.proofs.Common.{◌≡◌, ◌≢◌, ℕ, zero, suc, ◌+◌, ◌%◌, ◌<◌, ◌≤◌, List, [], ◌∷◌, ◌++◌, length, get_or, set, sym, refl, ap, ◌∙◌, subst, ⊎_elim, arith}
use Rattle.std.specs.List.{sum_by}
use Rattle.std.proofs.lemmas.List.Sums.{sum_by-cons}
use mathlib.Core.Logic.{dite}
use mathlib.Core.Option.{some, some-injective}
use native.Mathlib.Decide.{ℕ_discrete}
use lib.ListN.{get_elem?}
use Rattle.atomic_table.proofs.Lists.{at_set, set_here, set_else}
use Rattle.history_laws.proofs.Views.{at_end, entry_read}
use Rattle.ticket_line.specs.Tickets.{tickets_at, InLine}

pub at_most_one : (n : ℕ) → tickets_at n ≤ 1
at_most_one zero = omega arith
at_most_one (suc zero) = omega arith
at_most_one (suc (suc n)) = omega arith

-- a sum over views is no more than another sum if no view's part is
sums_le : {D : Type 0} (f g : D → ℕ) (vs : List D) → ((j : ℕ) (d : D) → get_elem? vs j ≡ some d → f d ≤ g d) → sum_by f vs ≤ sum_by g vs
sums_le f g [] low = omega arith
sums_le f g (v ∷ vs) low = let here = low 0 v refl in let rest = sums_le f g vs (λ j d at. low (suc j) d at) in let a = sum_by-cons f v vs in let b = sum_by-cons g v vs in omega (arith, here, rest, a, b)

module _ {D : Type 0} (stage ticket : D → ℕ) (words : List ℕ) (views : List D) (line : List ℕ) (k : InLine stage ticket words views line) where
  -- No more seats wait than may have a ticket.
  pub few_wait : (may : D → ℕ) → ((j : ℕ) (d : D) → get_elem? views j ≡ some d → tickets_at (stage d) ≤ may d) → length line ≤ sum_by may views
  few_wait may low = let most = sums_le (λ d. tickets_at (stage d)) may views low in let count = k.count in omega (arith, most, count)

  -- The place of a seat with a ticket in the line, given by its ticket.
  place_of : (j : ℕ) (d : D) → get_elem? views j ≡ some d → 1 < stage d → (p : ℕ) × (get_elem? line p ≡ some j) × (ticket d ≡ (get_or words 1 0 + p) % 18446744073709551616)
  place_of j d at waits = let mine = k.waits j d at waits in let old = k.each mine.0 j mine.1 in (mine.0, mine.1, ap ticket (some-injective d old.0 (sym at ∙ old.1)) ∙ old.3)

  -- Each ticket is one seat's.
  pub one_seat : length line < 18446744073709551616 → (i j : ℕ) (d e : D) → get_elem? views i ≡ some d → get_elem? views j ≡ some e → 1 < stage d → 1 < stage e → ticket d ≡ ticket e → i ≡ j
  one_seat few i j d e at_i at_j waits its_waits same =
      let mine = place_of i d at_i waits in let its = place_of j e at_j its_waits in let number = mine.2 in let its_number = its.2 in
      let below = (entry_read line mine.0 i mine.1).0 in let its_below = (entry_read line its.0 j its.1).0 in let small = k.small in
      let one_place : mine.0 ≡ its.0 = omega (arith, number, its_number, same, below, its_below, few, small) in
      some-injective i j (sym mine.1 ∙ ap (get_elem? line) one_place ∙ its.1)

  module _ (id : ℕ) (d : D) (at : get_elem? views id ≡ some d) (three : stage d ≡ 3) where
    -- The served seat has the served ticket.
    pub served_ticket : ticket d ≡ get_or words 1 0
    served_ticket = let mine = place_of id d at (omega (arith, three)) in let first = k.first mine.0 id d mine.1 at three in let number = mine.2 in let small = k.small in omega (arith, number, first, small)

    -- Nobody else is served.
    pub served_alone : (j : ℕ) (e : D) → j ≢ id → get_elem? views j ≡ some e → stage e ≢ 3
    served_alone j e other its_at its_three =
        let mine = k.waits id d at (omega (arith, three)) in let first = k.first mine.0 id d mine.1 at three in
        let its = k.waits j e its_at (omega (arith, its_three)) in let its_first = k.first its.0 j e its.1 its_at its_three in
        other (some-injective j id (sym its.1 ∙ ap (get_elem? line) (its_first ∙ sym first) ∙ mine.1))

module _ {D : Type 0} where
  -- If one seat gets another view, nobody is served unless somebody was served before, or that view
  -- is.
  pub nobody_still : (stage : D → ℕ) (views : List D) (id : ℕ) (d w : D) → get_elem? views id ≡ some d → (stage d ≡ 3 → stage w ≡ 3)
      → ((j : ℕ) (e : D) → get_elem? (set views id w) j ≡ some e → stage e ≢ 3) → (j : ℕ) (e : D) → get_elem? views j ≡ some e → stage e ≢ 3
  nobody_still stage views id d w at still away j e h three = dite (ℕ_discrete j id)
      (λ here. let same : d ≡ e = some-injective d e (sym at ∙ sym (ap (get_elem? views) here) ∙ h) in
      away id w (set_here views id w (entry_read views id d at).0) (still (ap stage same ∙ three)))
      (λ other. away j e (set_else views id j w other ∙ h) three)

module _ {D : Type 0} (P : D → Type 0) where
  -- At most one seat is of some sort, if no other seat becomes one.
  pub one_still : (vs : List D) (id : ℕ) (d w : D) → get_elem? vs id ≡ some d → (P w → P d)
      → ((i j : ℕ) (x y : D) → get_elem? vs i ≡ some x → get_elem? vs j ≡ some y → P x → P y → i ≡ j)
      → (i j : ℕ) (x y : D) → get_elem? (set vs id w) i ≡ some x → get_elem? (set vs id w) j ≡ some y → P x → P y → i ≡ j
  one_still vs id d w at same one i j x y at_i at_j is_x is_y =
      let a = was i x at_i is_x in let b = was j y at_j is_y in one i j a.0 b.0 a.1 b.1 a.2 b.2
    where
      was : (k : ℕ) (z : D) → get_elem? (set vs id w) k ≡ some z → P z → (old : D) × (get_elem? vs k ≡ some old) × P old
      was k z h is = ⊎_elim
          (λ (t : (k ≡ id) × (w ≡ z)). (d, ap (get_elem? vs) t.0 ∙ at, same (subst P (sym t.1) is)))
          (λ (t : (k ≢ id) × (get_elem? vs k ≡ some z)). (z, t.1, is))
          (at_set vs id k w z h)

  -- One more seat.
  pub one_with : (vs : List D) (w : D)
      → ((i j : ℕ) (x y : D) → get_elem? vs i ≡ some x → get_elem? vs j ≡ some y → P x → P y → i ≡ j)
      → ((j : ℕ) (y : D) → get_elem? vs j ≡ some y → P y → ¬ (P w))
      → (i j : ℕ) (x y : D) → get_elem? (vs ++ w ∷ []) i ≡ some x → get_elem? (vs ++ w ∷ []) j ≡ some y → P x → P y → i ≡ j
  one_with vs w one none i j x y at_i at_j is_x is_y = ⊎_elim
      (λ (a : (i < length vs) × (get_elem? vs i ≡ some x)). ⊎_elim
      (λ (b : (j < length vs) × (get_elem? vs j ≡ some y)). one i j x y a.1 b.1 is_x is_y)
      (λ (b : (j ≡ length vs) × (w ≡ y)). absurd (none i x a.1 is_x (subst P (sym b.1) is_y))) (at_end vs w y j at_j))
      (λ (a : (i ≡ length vs) × (w ≡ x)). ⊎_elim
      (λ (b : (j < length vs) × (get_elem? vs j ≡ some y)). absurd (none j y b.1 is_y (subst P (sym a.1) is_x)))
      (λ (b : (j ≡ length vs) × (w ≡ y)). a.0 ∙ sym b.0) (at_end vs w y j at_j))
      (at_end vs w x i at_i)
