-- What the rule of the counter says of its word.
use Rattle.std.proofs.Common.{◌≡◌, ◌≢◌, ℕ, zero, suc, ◌+◌, List, [], ◌∷◌, refl, sym, ap, ◌∙◌, arith}
use mathlib.Core.Option.{some, some-injective}
use lib.ListN.{get_elem?}
use Rattle.std.specs.List.{sum_by}
use Rattle.std.specs.Prelude.{slice_index}
use Rattle.std.proofs.lemmas.List.Sums.{sum_by-cons}
use Rattle.std.proofs.lemmas.Bool.Decides.{nat_tests}
use Rattle.packet_pool.specs.declared.counter.Hand.{Hand}
use Rattle.packet_pool.specs.Draws.{times, once_below}
use Rattle.packet_pool.specs.CounterLaws.{DrawnOnce, NoOthers, NeverWraps}
use Rattle.packet_pool.proofs.Drawing.{sum_by-at, word_most}

-- if a sum is 1, one view has 1, and the others have 0
abbrev OneHas : (Hand → ℕ) → List Hand → Type 0
OneHas f vs = (j : ℕ) × (v : Hand) × (get_elem? vs j ≡ some v) × (f v ≡ 1) × ((i : ℕ) (w : Hand) → i ≢ j → get_elem? vs i ≡ some w → f w ≡ 0)

one_has : (f : Hand → ℕ) (vs : List Hand) → sum_by f vs ≡ 1 → OneHas f vs
one_has f [] one = absurd (omega (arith, one))
one_has f (x ∷ xs) one = go (f x) refl (sum_by-cons f x xs) (one_has f xs)
  where
    others : sum_by f xs ≡ 0 → (i : ℕ) (w : Hand) → i ≢ 0 → get_elem? (x ∷ xs) i ≡ some w → f w ≡ 0
    others rest zero w apart e = absurd (apart refl)
    others rest (suc i) w apart e = let most = sum_by-at f xs i w e in omega (arith, most, rest)

    later : f x ≡ 0 → (r : OneHas f xs) → (i : ℕ) (w : Hand) → i ≢ suc r.0 → get_elem? (x ∷ xs) i ≡ some w → f w ≡ 0
    later here r zero w apart e = ap f (sym (some-injective x w e)) ∙ here
    later here r (suc i) w apart e = r.4 i w (λ same. apart (ap suc same)) e

    go : (n : ℕ) → f x ≡ n → sum_by f (x ∷ xs) ≡ f x + sum_by f xs → (sum_by f xs ≡ 1 → OneHas f xs) → OneHas f (x ∷ xs)
    go zero here cons rest = let r = rest (omega (arith, here, cons, one)) in (suc r.0, r.1, r.2, r.3, later here r)
    go (suc n) here cons rest = (0, x, refl, omega (arith, here, cons, one), others (omega (arith, here, cons, one)))

pub drawn_once : DrawnOnce
drawn_once batches workers s k x lt = one_has (λ v. times x v.drawn) s.views (k.once x ∙ grind (arith, nat_tests))

pub no_others : NoOthers
no_others batches workers s k x le j v e = let most = sum_by-at (λ u. times x u.drawn) s.views j v e in let once = k.once x in let nothing : once_below x (slice_index s.words 0) ≡ 0 = grind (arith, nat_tests) in omega (arith, most, once, nothing)

pub never_wraps : NeverWraps
never_wraps batches workers s k = (word_most batches workers s k, k.room)
