-- What the steps of one seat leave of the rule.
use Rattle.std.proofs.lemmas.Bool.Decides.{nat_tests}
use Rattle.std.proofs.Common.{◌≡◌, ◌≢◌, ℕ, zero, suc, ◌+◌, ◌<◌, ◌≤◌, ◌==◌, false, cond, List, [], ◌∷◌, ◌++◌, All, filter, sym, refl, ap, ◌∙◌, arith}
use Rattle.std.specs.List.{sum_by}
use Rattle.std.proofs.lemmas.List.Sums.{sum_by-cons}
use Rattle.std.proofs.lemmas.List.Elements.{All-nil, All-cons, All-head, All-tail, filter-append}
use mathlib.Core.Option.{some, some-injective, some-ne-none}
use mathlib.Core.List.{append-nil}
use lib.ListN.{get_elem?}
use Rattle.log_turns.specs.declared.SeatView.{SeatView}
use Rattle.log_turns.specs.LogRule.{IsOpener}

-- it gives seats to the control threads
abbrev pub GivesSeats : {B E G : Type 0} → SeatView B E G → Type 0
GivesSeats d = IsOpener d.role

-- a view's part is at most the sum
pub part_le : {D : Type 0} (f : D → ℕ) (vs : List D) (j : ℕ) (d : D) → get_elem? vs j ≡ some d → f d ≤ sum_by f vs
part_le f [] j d at = absurd (some-ne-none d (sym at))
part_le f (v ∷ vs) zero d at = let same = ap f (some-injective v d at) in let a = sum_by-cons f v vs in omega (arith, same, a)
part_le f (v ∷ vs) (suc j) d at = let rest = part_le f vs j d at in let a = sum_by-cons f v vs in omega (arith, rest, a)

-- two views' parts too
pub parts_le : {D : Type 0} (f : D → ℕ) (vs : List D) (i j : ℕ) (d e : D) → get_elem? vs i ≡ some d → get_elem? vs j ≡ some e → i ≢ j → f d + f e ≤ sum_by f vs
parts_le f [] i j d e at_i at_j apart = absurd (some-ne-none d (sym at_i))
parts_le f (v ∷ vs) zero zero d e at_i at_j apart = absurd (apart refl)
parts_le f (v ∷ vs) zero (suc j) d e at_i at_j apart = let same = ap f (some-injective v d at_i) in let rest = part_le f vs j e at_j in let a = sum_by-cons f v vs in omega (arith, same, rest, a)
parts_le f (v ∷ vs) (suc i) zero d e at_i at_j apart = let same = ap f (some-injective v e at_j) in let rest = part_le f vs i d at_i in let a = sum_by-cons f v vs in omega (arith, same, rest, a)
parts_le f (v ∷ vs) (suc i) (suc j) d e at_i at_j apart = let rest = parts_le f vs i j d e at_i at_j (λ z. apart (ap suc z)) in let a = sum_by-cons f v vs in omega (arith, rest, a)

pub sums_none : {D : Type 0} (f : D → ℕ) (vs : List D) → ((j : ℕ) (d : D) → get_elem? vs j ≡ some d → f d ≡ 0) → sum_by f vs ≡ 0
sums_none f [] none = refl
sums_none f (v ∷ vs) none = let here = none 0 v refl in let rest = sums_none f vs (λ j d at. none (suc j) d at) in let a = sum_by-cons f v vs in omega (arith, here, rest, a)

module _ {E : Type 0} where
  -- how often a number occurs among the kept logs
  abbrev pub times_in : ℕ → List (ℕ × List E) → ℕ
  times_in c ps = sum_by (λ p. cond (p.0 == c) 1 0) ps

  pub once_alone : (c : ℕ) (seen : List E) → times_in c ((c, seen) ∷ []) ≡ 1
  once_alone c seen = let a = sum_by-cons (λ (p : ℕ × List E). cond (p.0 == c) 1 0) (c, seen) [] in let one : ◌≡◌ {A = ℕ} (cond (c == c) 1 0) 1 = grind (arith, nat_tests) in omega (arith, a, one)

  pub never_alone : (c o : ℕ) (seen : List E) → o ≢ c → times_in c ((o, seen) ∷ []) ≡ 0
  never_alone c o seen apart = let a = sum_by-cons (λ (p : ℕ × List E). cond (p.0 == c) 1 0) (o, seen) [] in let none : ◌≡◌ {A = ℕ} (cond (o == c) 1 0) 0 = grind (arith, nat_tests, apart) in omega (arith, a, none)

  -- if a number never occurs, no kept log is its own
  pub all_others : (c : ℕ) (ps : List (ℕ × List E)) → times_in c ps ≡ 0 → All (λ p. p.0 ≢ c) ps
  all_others c [] none = All-nil (λ p. p.0 ≢ c)
  all_others c (p ∷ ps) none =
      let a = sum_by-cons (λ (p : ℕ × List E). cond (p.0 == c) 1 0) p ps in
      let apart : p.0 ≢ c = (λ same. let one : ◌≡◌ {A = ℕ} (cond (p.0 == c) 1 0) 1 = grind (arith, nat_tests, same) in omega (arith, a, one, none)) in
      All-cons (λ p. p.0 ≢ c) p ps apart (all_others c ps (omega (arith, a, none)))

  -- a number greater than all never occurs
  pub none_above : (most c : ℕ) (ps : List (ℕ × List E)) → most < c → All (λ p. p.0 ≤ most) ps → times_in c ps ≡ 0
  none_above most c [] above all = refl
  none_above most c (p ∷ ps) above all =
      let low = All-head (λ p. p.0 ≤ most) p ps all in let a = sum_by-cons (λ (p : ℕ × List E). cond (p.0 == c) 1 0) p ps in
      let none : ◌≡◌ {A = ℕ} (cond (p.0 == c) 1 0) 0 = grind (arith, nat_tests, low, above) in let rest = none_above most c ps above (All-tail (λ p. p.0 ≤ most) p ps all) in omega (arith, a, none, rest)

module _ {E : Type 0} (clerk : E → ℕ) where
  none_of : (c other : ℕ) (xs : List E) → other ≢ c → All (λ e. clerk e ≡ c) xs → filter (λ e. clerk e == other) xs ≡ []
  none_of c other [] apart all = refl
  none_of c other (x ∷ xs) apart all =
      let here : clerk x ≡ c = All-head (λ e. clerk e ≡ c) x xs all in let test : (clerk x == other) ≡ false = grind (arith, nat_tests, here, apart) in
      (λ i. cond (test i) (x ∷ filter (λ e. clerk e == other) xs) (filter (λ e. clerk e == other) xs)) ∙ none_of c other xs apart (All-tail (λ e. clerk e ≡ c) x xs all)

  -- the entries that another control thread adds to the log are none of this control thread's
  pub others_entries : (c other : ℕ) (xs added : List E) → other ≢ c → All (λ e. clerk e ≡ c) added → filter (λ e. clerk e == other) (xs ++ added) ≡ filter (λ e. clerk e == other) xs
  others_entries c other xs added apart all = filter-append (λ e. clerk e == other) xs added ∙ ap (λ z. filter (λ e. clerk e == other) xs ++ z) (none_of c other added apart all) ∙ append-nil (filter (λ e. clerk e == other) xs)

  -- a number greater than all has no entry
  pub new_entries : (given : ℕ) (xs : List E) → All (λ e. (0 < clerk e) × (clerk e ≤ given)) xs → filter (λ e. clerk e == (given + 1)) xs ≡ []
  new_entries given [] all = refl
  new_entries given (x ∷ xs) all =
      let here = All-head (λ e. (0 < clerk e) × (clerk e ≤ given)) x xs all in let low = here.1 in let test : (clerk x == (given + 1)) ≡ false = grind (arith, nat_tests, low) in
      (λ i. cond (test i) (x ∷ filter (λ e. clerk e == (given + 1)) xs) (filter (λ e. clerk e == (given + 1)) xs)) ∙ new_entries given xs (All-tail (λ e. (0 < clerk e) × (clerk e ≤ given)) x xs all)
