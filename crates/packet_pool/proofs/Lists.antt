-- Items of lists, by their places.
use Rattle.std.proofs.Common.{◌≡◌, ◌≢◌, ◌⊎◌, ⊎_elim, inl, inr, ℕ, zero, suc, ◌+◌, ◌<◌, List, [], ◌∷◌, ◌++◌, length, take, drop, sym, refl, ap, ◌∙◌, subst, arith, append_assoc, Some, slice_get, slice_set, slice_index_or, All, Bool, true, false, cond, map}
use Rattle.std.specs.List.{count_by}
use Rattle.std.proofs.lemmas.List.Sums.{sum_by-cons}
use Rattle.std.proofs.lemmas.Option.{slice_get_within, slice_get-get_or, get_or_from_slice_get, same_Some}
use Rattle.history_laws.specs.Histories.{StartsWith, EndsWith}

module _ {A : Type 0} where
  -- an item of two lists is one of the first, or one of the second
  pub get_append : (xs ys : List A) (k : ℕ) (z : A) → slice_get (xs ++ ys) k ≡ Some z → (slice_get xs k ≡ Some z) ⊎ ((j : ℕ) × (k ≡ length xs + j) × (slice_get ys j ≡ Some z))
  get_append [] ys k z e = inr (k, omega arith, e)
  get_append (x ∷ xs) ys zero z e = inl e
  get_append (x ∷ xs) ys (suc k) z e = ⊎_elim (λ t. inl t) (λ t. let n = t.1 in inr (t.0, omega (arith, n), t.2)) (get_append xs ys k z e)

  -- an item of a list with one more is one of the list, or the last
  pub get_push : (xs : List A) (y z : A) (k : ℕ) → slice_get (xs ++ y ∷ []) k ≡ Some z → (slice_get xs k ≡ Some z) ⊎ ((k ≡ length xs) × (y ≡ z))
  get_push [] y z zero e = inr (refl, same_Some y z e)
  get_push [] y z (suc k) e = absurd (cc)
  get_push (x ∷ xs) y z zero e = inl e
  get_push (x ∷ xs) y z (suc k) e = ⊎_elim (λ t. inl t) (λ t. inr (ap suc t.0, t.1)) (get_push xs y z k e)

  pub get_longer : (xs ys : List A) (k : ℕ) (z : A) → slice_get xs k ≡ Some z → slice_get (xs ++ ys) k ≡ Some z
  get_longer [] ys k z e = absurd (cc)
  get_longer (x ∷ xs) ys zero z e = e
  get_longer (x ∷ xs) ys (suc k) z e = get_longer xs ys k z e

  -- an item of a beginning is one of the whole
  pub get_begun : (all seen : List A) → StartsWith all seen → (k : ℕ) (z : A) → slice_get seen k ≡ Some z → slice_get all k ≡ Some z
  get_begun all seen b k z e = ap (λ (l : List A). slice_get l k) b.1 ∙ get_longer seen b.0 k z e

  pub get_at : (xs : List A) (k : ℕ) → k < length xs → (x : A) × (slice_get xs k ≡ Some x)
  get_at [] k l = absurd (omega arith)
  get_at (x ∷ xs) zero l = (x, refl)
  get_at (x ∷ xs) (suc k) l = get_at xs k (omega arith)

  -- the item after all others
  pub get_last : (xs : List A) (k : ℕ) → k + 1 ≡ length xs → (x : A) × (slice_get xs k ≡ Some x) × EndsWith xs x
  get_last [] k e = absurd (omega arith)
  get_last (x ∷ []) zero e = (x, refl, ([], refl))
  get_last (x ∷ []) (suc k) e = absurd (omega arith)
  get_last (x ∷ y ∷ ys) zero e = absurd (omega arith)
  get_last (x ∷ y ∷ ys) (suc k) e = let r = get_last (y ∷ ys) k (omega arith) in (r.0, r.1, (x ∷ r.2.0, ap (λ (l : List A). x ∷ l) r.2.1))

  -- what holds of all items holds of each
  pub all_at : (P : A → Type 0) (xs : List A) → All P xs → (k : ℕ) (x : A) → slice_get xs k ≡ Some x → P x
  all_at P xs h k x e = rw (← get_or_from_slice_get xs k x x e) (h k x (slice_get_within xs k x e))

  -- what holds of each item and its place holds with one more
  pub each_push : (P : ℕ → A → Type 0) (xs : List A) (x : A) → ((k : ℕ) (y : A) → slice_get xs k ≡ Some y → P k y) → P (length xs) x → (k : ℕ) (y : A) → slice_get (xs ++ x ∷ []) k ≡ Some y → P k y
  each_push P xs x each last k y e = ⊎_elim (λ t. each k y t) (λ (t : (k ≡ length xs) × (x ≡ y)). subst (λ (z : ℕ × A). P z.0 z.1) (λ i. (sym t.0 i, t.1 i)) last) (get_push xs x y k e)

  pub get_set_here : (xs : List A) (i : ℕ) (x : A) → i < length xs → slice_get (slice_set xs i x) i ≡ Some x
  get_set_here [] i x l = absurd (omega arith)
  get_set_here (y ∷ ys) zero x l = refl
  get_set_here (y ∷ ys) (suc i) x l = get_set_here ys i x (omega arith)

  pub get_set_other : (xs : List A) (i k : ℕ) (x : A) → k ≢ i → slice_get (slice_set xs i x) k ≡ slice_get xs k
  get_set_other [] i k x other = refl
  get_set_other (y ∷ ys) zero zero x other = absurd (other refl)
  get_set_other (y ∷ ys) zero (suc k) x other = refl
  get_set_other (y ∷ ys) (suc i) zero x other = refl
  get_set_other (y ∷ ys) (suc i) (suc k) x other = get_set_other ys i k x (λ e. other (ap suc e))

  -- the next item in a walk through a list
  pub get_next : (all front rest more : List A) (x : A) → front ++ rest ≡ all → rest ≡ x ∷ more → slice_get all (length front) ≡ Some x
  get_next all front rest more x e next = ap (λ (l : List A). slice_get l (length front)) (sym e ∙ ap (λ (l : List A). front ++ l) next) ∙ behind front x more
    where
      behind : (front : List A) (x : A) (more : List A) → slice_get (front ++ x ∷ more) (length front) ≡ Some x
      behind [] x more = refl
      behind (y ∷ ys) x more = behind ys x more

  pub next_more : (all front rest more : List A) (x : A) → front ++ rest ≡ all → rest ≡ x ∷ more → (front ++ x ∷ []) ++ more ≡ all
  next_more all front rest more x e next = append_assoc front (x ∷ []) more ∙ ap (λ (l : List A). front ++ l) (sym next) ∙ e

  pub get_take : (n : ℕ) (xs : List A) (k : ℕ) (z : A) → slice_get (take n xs) k ≡ Some z → (k < n) × (slice_get xs k ≡ Some z)
  get_take zero xs k z e = absurd (cc)
  get_take (suc n) [] k z e = absurd (cc)
  get_take (suc n) (x ∷ xs) zero z e = (omega arith, e)
  get_take (suc n) (x ∷ xs) (suc k) z e = let r = get_take n xs k z e in let l = r.0 in (omega (arith, l), r.1)

  pub get_drop : (n : ℕ) (xs : List A) (k : ℕ) (z : A) → slice_get (drop n xs) k ≡ Some z → slice_get xs (n + k) ≡ Some z
  get_drop zero xs k z e = ap (slice_get xs) (let same : zero + k ≡ k = omega arith in same) ∙ e
  get_drop (suc n) [] k z e = absurd (cc)
  get_drop (suc n) (x ∷ xs) k z e = ap (slice_get (x ∷ xs)) (let same : suc n + k ≡ suc (n + k) = omega arith in same) ∙ get_drop n xs k z e

  -- an item that passes is counted, and if one is counted, one passes
  pub count_there : (test : A → Bool) (xs : List A) (k : ℕ) (x : A) → slice_get xs k ≡ Some x → test x ≡ true → 0 < count_by test xs
  count_there test [] k x e is = absurd (cc)
  count_there test (y ∷ ys) zero x e is = let one = ap (λ (b : Bool). cond {A = ℕ} b 1 0) (ap test (same_Some y x e) ∙ is) in omega (arith, one, sum_by-cons (λ (z : A). cond (test z) 1 0) y ys)
  count_there test (y ∷ ys) (suc k) x e is = let rest = count_there test ys k x e is in omega (arith, rest, sum_by-cons (λ (z : A). cond (test z) 1 0) y ys)

  pub count_some : (test : A → Bool) (xs : List A) → 0 < count_by test xs → (k : ℕ) × (x : A) × (slice_get xs k ≡ Some x) × (test x ≡ true)
  count_some test [] h = absurd (omega arith)
  count_some test (y ∷ ys) h = go (test y) refl (sum_by-cons (λ (z : A). cond (test z) 1 0) y ys) (λ more. count_some test ys more)
    where
      go : (b : Bool) → test y ≡ b → count_by test (y ∷ ys) ≡ cond (test y) 1 0 + count_by test ys → (0 < count_by test ys → (k : ℕ) × (x : A) × (slice_get ys k ≡ Some x) × (test x ≡ true)) → (k : ℕ) × (x : A) × (slice_get (y ∷ ys) k ≡ Some x) × (test x ≡ true)
      go true e cons rest = (0, y, refl, e)
      go false e cons rest = let nought = ap (λ (b : Bool). cond {A = ℕ} b 1 0) e in let r = rest (omega (arith, nought, cons, h)) in (suc r.0, r.1, r.2, r.3)

  -- a line of one of many lists
  pub get_list : {B : Type 0} (f : A → List B) (xs : List A) (i k : ℕ) (y : B) → slice_get (slice_index_or (map f xs) i []) k ≡ Some y → (x : A) × (slice_get xs i ≡ Some x) × (slice_get (f x) k ≡ Some y)
  get_list f [] i k y e = absurd (cc)
  get_list f (x ∷ xs) zero k y e = (x, refl, e)
  get_list f (x ∷ xs) (suc i) k y e = get_list f xs i k y e

  pub list_get : {B : Type 0} (f : A → List B) (xs : List A) (i : ℕ) (x : A) → slice_get xs i ≡ Some x → slice_index_or (map f xs) i [] ≡ f x
  list_get f [] i x e = absurd (cc)
  list_get f (y ∷ ys) zero x e = ap f (same_Some y x e)
  list_get f (y ∷ ys) (suc i) x e = list_get f ys i x e

  -- what holds of each item holds of all
  pub all_from : (P : A → Type 0) (xs : List A) → ((k : ℕ) (x : A) → slice_get xs k ≡ Some x → P x) → All P xs
  all_from P xs each = λ k d l. each k _ (slice_get-get_or xs k d l)
