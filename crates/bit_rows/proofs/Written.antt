-- Writing words one by one and eight by eight.
use Rattle.std.proofs.Common.{◌≡◌, ◌≢◌, refl, sym, ◌∙◌, ap, subst, ℕ, zero, suc, ◌+◌, ◌-◌, ◌<◌, ◌≤◌, ◌⊎◌, cond, List, [], ◌∷◌, length, get_or, set, take, drop, replicate, bit_or, arith, inl, inr}
use Rattle.std.proofs.lemmas.Bool.{cases_lt, cases_eq, cond-true, cond-false}
use Rattle.std.proofs.lemmas.List.{get_or-set_same, get_or-set_other}
use Rattle.std.proofs.lemmas.Simd.{length-zip2, length-chunk, get_or-zip2, get_or-chunk, get_or-put_chunk_below, get_or-put_chunk_at, get_or-put_chunk_above, get_or-replicate}
use Rattle.std.proofs.lemmas.Nat.{le_or_l, le_or_r}
use Rattle.std.specs.Simd.Lanes.{zip2, put_chunk, fold_l}
use Rattle.bit_rows.specs.Row.{lies}
use Rattle.bit_rows.specs.Words.{IsWritten}
use Rattle.bit_rows.proofs.Tests.{lies-in, lies-below, lies-above}

-- a word inside the run, and one outside it
pub written-in : (f : ℕ → ℕ) (from to : ℕ) (old new : List ℕ) (k : ℕ) → IsWritten f from to old new → from ≤ k → k < to → get_or new k 0 ≡ f k
written-in f from to old new k w h l = w.word k ∙ cond-true _ (f k) (get_or old k 0) (lies-in from to k h l)

pub written-above : (f : ℕ → ℕ) (from to : ℕ) (old new : List ℕ) (k : ℕ) → IsWritten f from to old new → to ≤ k → get_or new k 0 ≡ get_or old k 0
written-above f from to old new k w h = w.word k ∙ cond-false _ (f k) (get_or old k 0) (lies-above from to k h)

pub written-below : (f : ℕ → ℕ) (from to : ℕ) (old new : List ℕ) (k : ℕ) → IsWritten f from to old new → k < from → get_or new k 0 ≡ get_or old k 0
written-below f from to old new k w h = w.word k ∙ cond-false _ (f k) (get_or old k 0) (lies-below from to k h)

-- from the three parts
written-by : (f : ℕ → ℕ) (from to : ℕ) (old new : List ℕ) → ((k : ℕ) → k < from → get_or new k 0 ≡ get_or old k 0) → ((k : ℕ) → from ≤ k → k < to → get_or new k 0 ≡ f k)
    → ((k : ℕ) → to ≤ k → get_or new k 0 ≡ get_or old k 0) → IsWritten f from to old new
written-by f from to old new below here above = record { word = λ k. go k (cases_lt k from) (cases_lt k to) } where
  go : (k : ℕ) → (k < from) ⊎ (from ≤ k) → (k < to) ⊎ (to ≤ k) → get_or new k 0 ≡ cond (lies from to k) (f k) (get_or old k 0)
  go k (inl h) l = below k h ∙ sym (cond-false _ (f k) (get_or old k 0) (lies-below from to k h))
  go k (inr h) (inl l) = here k h l ∙ sym (cond-true _ (f k) (get_or old k 0) (lies-in from to k h l))
  go k (inr h) (inr l) = above k l ∙ sym (cond-false _ (f k) (get_or old k 0) (lies-above from to k l))

pub written-none : (f : ℕ → ℕ) (from to : ℕ) (old : List ℕ) → to ≤ from → IsWritten f from to old old
written-none f from to old none = written-by f from to old old (λ k h. refl) (λ k h l. absurd (omega arith)) (λ k h. refl)

-- one more word
pub written-set : (f : ℕ → ℕ) (from w v : ℕ) (old words : List ℕ) → IsWritten f from w old words → v ≡ f w → from ≤ w → w < length words
    → IsWritten f from (w + 1) old (set words w v)
written-set f from w v old words so_far e low within = written-by f from (w + 1) old (set words w v)
    (λ k h. get_or-set_other words w k v 0 (omega arith) ∙ written-below f from w old words k so_far h)
    (λ k h l. here k h l (cases_eq k w))
    (λ k h. get_or-set_other words w k v 0 (omega arith) ∙ written-above f from w old words k so_far (omega arith)) where
      here : (k : ℕ) → from ≤ k → k < w + 1 → (k ≡ w) ⊎ (k ≢ w) → get_or (set words w v) k 0 ≡ f k
      here k h l (inl same) = ap (λ i. get_or (set words w v) i 0) same ∙ get_or-set_same words w v 0 within ∙ e ∙ ap f (sym same)
      here k h l (inr other) = get_or-set_other words w k v 0 other ∙ written-in f from w old words k so_far h (omega arith)

pub written-until : (f : ℕ → ℕ) (from w to : ℕ) (old words : List ℕ) → w ≡ to → IsWritten f from w old words → IsWritten f from to old words
written-until f from w to old words e done = subst (λ n. IsWritten f from n old words) e done

-- one run after the other
pub written-join : (f g : ℕ → ℕ) (from mid to : ℕ) (old words new : List ℕ) → IsWritten f from mid old words → IsWritten g mid to words new
    → from ≤ mid → mid ≤ to → ((k : ℕ) → mid ≤ k → k < to → g k ≡ f k) → IsWritten f from to old new
written-join f g from mid to old words new one two low high same = written-by f from to old new
    (λ k h. written-below g mid to words new k two (omega arith) ∙ written-below f from mid old words k one h)
    (λ k h l. here k h l (cases_lt k mid))
    (λ k h. written-above g mid to words new k two h ∙ written-above f from mid old words k one (omega arith)) where
      here : (k : ℕ) → from ≤ k → k < to → (k < mid) ⊎ (mid ≤ k) → get_or new k 0 ≡ f k
      here k h l (inl below) = written-below g mid to words new k two below ∙ written-in f from mid old words k one h below
      here k h l (inr above) = written-in g mid to words new k two above l ∙ same k above l

-- ---- eight lanes

pub written-lanes : (f : ℕ → ℕ) (w : ℕ) (old lanes : List ℕ) → length lanes ≡ 8 → w + 8 ≤ length old → ((j : ℕ) → j < 8 → get_or lanes j 0 ≡ f (w + j))
    → IsWritten f w (w + 8) old (put_chunk w old lanes)
written-lanes f w old lanes eight within same = written-by f w (w + 8) old (put_chunk w old lanes)
    (λ k h. get_or-put_chunk_below w old lanes k 0 h)
    (λ k h l. let e : w + (k - w) ≡ k = omega arith in
    ap (λ i. get_or (put_chunk w old lanes) i 0) (sym e) ∙ get_or-put_chunk_at w old lanes (k - w) 0 (omega arith) (omega arith) ∙ same (k - w) (omega arith) ∙ ap f e)
    (λ k h. get_or-put_chunk_above w old lanes k 0 (omega arith))

-- an operation of each lane of two loads
pub written-zip : (op : ℕ → ℕ → ℕ) (w : ℕ) (words other : List ℕ) → w + 8 ≤ length words → w + 8 ≤ length other
    → IsWritten (λ k. op (get_or words k 0) (get_or other k 0)) w (w + 8) words (put_chunk w words (zip2 op (take 8 (drop w words)) (take 8 (drop w other))))
written-zip op w words other here there =
    let a : length (take 8 (drop w words)) ≡ 8 = length-chunk w 8 words here in
    let b : length (take 8 (drop w other)) ≡ 8 = length-chunk w 8 other there in
    written-lanes (λ k. op (get_or words k 0) (get_or other k 0)) w words (zip2 op (take 8 (drop w words)) (take 8 (drop w other)))
    (length-zip2 op (take 8 (drop w words)) (take 8 (drop w other)) (a ∙ sym b) ∙ a) here
    (λ j h. get_or-zip2 op (take 8 (drop w words)) (take 8 (drop w other)) j 0 0 0 (omega arith) (omega arith)
    ∙ two (get_or-chunk w 8 words j 0 h) (get_or-chunk w 8 other j 0 h)) where
      two : {p q r t : ℕ} → p ≡ q → r ≡ t → op p r ≡ op q t
      two x y = cc

pub written-splat : (value w : ℕ) (words : List ℕ) → w + 8 ≤ length words → IsWritten (λ _. value) w (w + 8) words (put_chunk w words (replicate 8 value))
written-splat value w words within =
    written-lanes (λ _. value) w words (replicate 8 value) refl within (λ j h. get_or-replicate 8 j value 0 h)

-- if the OR of all is 0, each is 0
or-zero : (start : ℕ) (xs : List ℕ) → fold_l bit_or start xs ≡ 0 → (start ≡ 0) × ((j : ℕ) → get_or xs j 0 ≡ 0)
or-zero start [] e = (e, λ j. refl)
or-zero start (x ∷ xs) e = go (or-zero (bit_or start x) xs e) where
  none : (y : ℕ) → bit_or start x ≡ 0 → y ≤ bit_or start x → y ≡ 0
  none y e h = omega arith

  go : (bit_or start x ≡ 0) × ((j : ℕ) → get_or xs j 0 ≡ 0) → (start ≡ 0) × ((j : ℕ) → get_or (x ∷ xs) j 0 ≡ 0)
  go rest = (none start rest.0 (le_or_l start x), each) where
    each : (j : ℕ) → get_or (x ∷ xs) j 0 ≡ 0
    each zero = none x rest.0 (le_or_r start x)
    each (suc j) = rest.1 j

pub lanes-zero : (w : ℕ) (words : List ℕ) → fold_l bit_or 0 (take 8 (drop w words)) ≡ 0 → (k : ℕ) → w ≤ k → k < w + 8 → get_or words k 0 ≡ 0
lanes-zero w words e k low high =
    let same : w + (k - w) ≡ k = omega arith in
    ap (λ i. get_or words i 0) (sym same) ∙ sym (get_or-chunk w 8 words (k - w) 0 (omega arith)) ∙ (or-zero 0 (take 8 (drop w words)) e).1 (k - w)
