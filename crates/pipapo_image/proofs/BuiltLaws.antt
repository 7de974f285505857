-- Lists that are made or changed item by item, one item further.
use Rattle.std.proofs.Common.{◌≡◌, refl, sym, ◌∙◌, ap, subst, ℕ, ◌+◌, ◌<◌, ◌≤◌, ◌⊎◌, inl, inr, List, [], ◌∷◌, ◌++◌, length, get_or, set, arith, length-set, get_or-set_same, get_or-set_other}
use Rattle.std.proofs.lemmas.Bool.{cases_lt, cases_eq}
use Rattle.std.proofs.lemmas.List.{get_or_push, get_or_append_left, length_push, get_or_default}
use Rattle.pipapo_image.specs.Index.Built.{Built, Passed, EachChanged}

pub built-none : {X : Type 0} (P : ℕ → X → Type 0) → Built P [] 0
built-none P = record { one_each = refl; each = λ k d h. absurd (omega arith) }

pub built-more : {X : Type 0} (P : ℕ → X → Type 0) (xs : List X) (n : ℕ) (x : X) → Built P xs n → P n x → Built P (xs ++ x ∷ []) (n + 1)
built-more {X} P xs n x b h = record { one_each = length_push xs x ∙ ap (λ m. m + 1) b.one_each; each = λ k d l. go k d (cases_lt k n) l } where
  go : (k : ℕ) (d : X) → (k < n) ⊎ (n ≤ k) → k < n + 1 → P k (get_or (xs ++ x ∷ []) k d)
  go k d (inl a) l = let m = b.one_each in subst (P k) (sym (get_or_append_left xs (x ∷ []) d k (omega arith))) (b.each k d a)
  go k d (inr a) l =
      let q : n ≡ k = omega arith in
      subst (P k) (sym (get_or_push xs x d k (b.one_each ∙ q))) (subst (λ m. P m x) q h)

pub passed-none : {X : Type 0} (R : ℕ → X → X → Type 0) (old : List X) → Passed R old old 0
passed-none R old = record { len = refl; done = λ k d h. absurd (omega arith); rest = λ k d h. refl }

pub passed-more : {X : Type 0} (R : ℕ → X → X → Type 0) (old now : List X) (i : ℕ) (y d : X) → Passed R old now i → i < length old → R i (get_or now i d) y → Passed R old (set now i y) (i + 1)
passed-more {X} R old now i y d p h r = record {
  len = length-set now i y ∙ p.len;
  done = λ k e g l. go k e l (cases_eq k i) (omega arith);
  rest = λ k e g. let ne : k ≡ i → ⊥ = λ q. absurd (omega arith) in let le : i ≤ k = omega arith in get_or-set_other now i k y e ne ∙ p.rest k e le;
} where
  inside : i < length now
  inside = let n = p.len in omega arith

  same : (e : X) → get_or now i d ≡ get_or old i e
  same e = get_or_default now i d e inside ∙ p.rest i e (omega arith)

  go : (k : ℕ) (e : X) → k < length old → (k ≡ i) ⊎ (k ≡ i → ⊥) → k < i + 1 → R k (get_or old k e) (get_or (set now i y) k e)
  go k e l (inl q) b =
      let at_i : R i (get_or old i e) (get_or (set now i y) i e) = rw (← same e, get_or-set_same now i y e inside) r in
      subst (λ n. R n (get_or old n e) (get_or (set now i y) n e)) (sym q) at_i
  go k e l (inr ne) b =
      let lt : k < i = omega arith in
      rw (get_or-set_other now i k y e ne) (p.done k e lt l)

pub each-same : {X : Type 0} (R : X → X → Type 0) (xs : List X) → ((x : X) → R x x) → EachChanged R xs xs
each-same R xs h = record { len = refl; each = λ k d l. h (get_or xs k d) }

pub each-more : {X : Type 0} (R : X → X → Type 0) (old now : List X) (i : ℕ) (y d : X) → ((a b c : X) → R a b → R b c → R a c) → EachChanged R old now → i < length old → R (get_or now i d) y
    → EachChanged R old (set now i y)
each-more {X} R old now i y d trans p h r = record { len = length-set now i y ∙ p.len; each = λ k e l. go k e l (cases_eq k i) } where
  inside : i < length now
  inside = let n = p.len in omega arith

  go : (k : ℕ) (e : X) → k < length old → (k ≡ i) ⊎ (k ≡ i → ⊥) → R (get_or old k e) (get_or (set now i y) k e)
  go k e l (inl q) =
      let a : R (get_or now i e) y = rw (get_or_default now i e d inside) r in
      let at_i : R (get_or old i e) (get_or (set now i y) i e) = rw (get_or-set_same now i y e inside) (trans (get_or old i e) (get_or now i e) y (p.each i e h) a) in
      subst (λ n. R (get_or old n e) (get_or (set now i y) n e)) (sym q) at_i
  go k e l (inr ne) = rw (get_or-set_other now i k y e ne) (p.each k e l)

-- what holds of the first i items, after one more was set
pub set-more : {X : Type 0} (P : ℕ → X → Type 0) (now : List X) (i : ℕ) (y : X) → i < length now → ((k : ℕ) (d : X) → k < i → P k (get_or now k d)) → P i y
    → (k : ℕ) (d : X) → k < i + 1 → P k (get_or (set now i y) k d)
set-more {X} P now i y inside before here k d h = go (cases_eq k i) where
  go : (k ≡ i) ⊎ (k ≡ i → ⊥) → P k (get_or (set now i y) k d)
  go (inl q) =
      let at_i : P i (get_or (set now i y) i d) = subst (P i) (sym (get_or-set_same now i y d inside)) here in
      subst (λ n. P n (get_or (set now i y) n d)) (sym q) at_i
  go (inr ne) = let lt : k < i = omega arith in subst (P k) (sym (get_or-set_other now i k y d ne)) (before k d lt)
