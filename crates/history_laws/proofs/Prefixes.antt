-- Histories that begin others.
use Rattle.std.proofs.Common.{subst, ◌≡◌, ◌<◌, ◌≤◌, sym, refl, ap, ◌∙◌, arith, List, [], ◌∷◌, ◌++◌, length, length-append, append_assoc, Bool, true, false, cond, nat_lt}
use mathlib.Core.List.{append-nil}
use Rattle.std.proofs.lemmas.Bool.Decides.{nat_tests}
use Rattle.history_laws.specs.Histories.{StartsWith, EndsWith, Linked, Chain, longer}

module _ {X : Type 0} where
  prefix_of : (xs ys r q : List X) → xs ++ r ≡ ys ++ q → length xs ≤ length ys → StartsWith ys xs
  prefix_of [] ys r q e l = (ys, refl)
  prefix_of (x ∷ xs) [] r q e l = absurd (omega arith)
  prefix_of (x ∷ xs) (y ∷ ys) r q e l = let head : x ≡ y = cc in let tails : xs ++ r ≡ ys ++ q = cc in let t = prefix_of xs ys r q tails (omega arith) in (t.0, λ i. sym head i ∷ t.1 i)

  -- of two lists that begin the same list, the shorter begins the longer
  pub begins : (all xs ys : List X) → StartsWith all xs → StartsWith all ys → length xs ≤ length ys → StartsWith ys xs
  begins all xs ys a b l = prefix_of xs ys a.0 b.0 (sym a.1 ∙ b.1) l

  pub begins_all : (all xs : List X) → StartsWith all xs → length xs ≤ length all
  begins_all all xs a = omega (arith, ap length a.1, length-append xs a.0)

  pub starts_itself : (xs : List X) → StartsWith xs xs
  starts_itself xs = ([], sym (append-nil xs))

  pub starts_more : (all xs more : List X) → StartsWith all xs → StartsWith (all ++ more) xs
  starts_more all xs more a = (a.0 ++ more, ap (λ (z : List X). z ++ more) a.1 ∙ append_assoc xs a.0 more)

  pub starts_through : (all mid xs : List X) → StartsWith all mid → StartsWith mid xs → StartsWith all xs
  starts_through all mid xs a b = (b.0 ++ a.0, a.1 ∙ (ap (λ (z : List X). z ++ a.0) b.1 ∙ append_assoc xs b.0 a.0))

  longer_cases : (xs ys : List X) (b : Bool) → nat_lt (length xs) (length ys) ≡ b → (P : List X → Type 0) → (length xs < length ys → P ys) → (length ys ≤ length xs → P xs) → P (cond b ys xs)
  longer_cases xs ys true e P f g = f (grind (arith, nat_tests))
  longer_cases xs ys false e P f g = g (grind (arith, nat_tests))

  pub by_longer : (xs ys : List X) (P : List X → Type 0) → (length xs < length ys → P ys) → (length ys ≤ length xs → P xs) → P (longer xs ys)
  by_longer xs ys P f g = longer_cases xs ys (nat_lt (length xs) (length ys)) refl P f g

  -- both begin the longer one, which begins what both begin
  pub longer_begins : (all xs ys : List X) → StartsWith all xs → StartsWith all ys → StartsWith all (longer xs ys) × StartsWith (longer xs ys) xs × StartsWith (longer xs ys) ys
  longer_begins all xs ys a b = by_longer xs ys (λ z. StartsWith all z × StartsWith z xs × StartsWith z ys)
      (λ l. (b, begins all xs ys a b (omega arith), starts_itself ys)) (λ l. (a, starts_itself xs, begins all ys xs b a l))

  pub longer_whole : (all ys : List X) → StartsWith all ys → longer all ys ≡ all
  longer_whole all ys b = let l = begins_all all ys b in by_longer all ys (λ z. z ≡ all) (λ h. absurd (omega arith)) (λ h. refl)

  linked_prefix : (follows : X → X → Type 0) (x : X) (xs ys : List X) → Linked follows x (xs ++ ys) → Linked follows x xs
  linked_prefix follows x [] ys h = tt
  linked_prefix follows x (y ∷ xs) ys h = (h.0, linked_prefix follows y xs ys h.1)

  chain_front : (follows : X → X → Type 0) (xs ys : List X) → Chain follows (xs ++ ys) → Chain follows xs
  chain_front follows [] ys h = tt
  chain_front follows (x ∷ xs) ys h = linked_prefix follows x xs ys h

  pub chain_prefix : (follows : X → X → Type 0) (all seen : List X) → StartsWith all seen → Chain follows all → Chain follows seen
  chain_prefix follows all seen b h = chain_front follows seen b.0 (subst (Chain follows) b.1 h)

  linked_snoc : (follows : X → X → Type 0) (x : X) (xs : List X) (z : X) → ((y : X) → EndsWith (x ∷ xs) y → follows y z) → Linked follows x xs → Linked follows x (xs ++ z ∷ [])
  linked_snoc follows x [] z next h = (next x ([], refl), tt)
  linked_snoc follows x (y ∷ ys) z next h = (h.0, linked_snoc follows y ys z (λ w e. next w (x ∷ e.0, ap (λ (l : List X). x ∷ l) e.1)) h.1)

  pub chain_snoc : (follows : X → X → Type 0) (xs : List X) (z : X) → ((y : X) → EndsWith xs y → follows y z) → Chain follows xs → Chain follows (xs ++ z ∷ [])
  chain_snoc follows [] z next h = tt
  chain_snoc follows (x ∷ xs) z next h = linked_snoc follows x xs z next h

  abbrev last_or : X → List X → X
  last_or d [] = d
  last_or d (x ∷ xs) = last_or x xs

  last_or-snoc : (d : X) (front : List X) (x : X) → last_or d (front ++ x ∷ []) ≡ x
  last_or-snoc d [] x = refl
  last_or-snoc d (y ∷ ys) x = last_or-snoc y ys x

  -- a history has one last state
  pub one_last : (all : List X) (x y : X) → EndsWith all x → EndsWith all y → x ≡ y
  one_last all x y a b = sym (ap (last_or x) a.1 ∙ last_or-snoc x a.0 x) ∙ (ap (last_or x) b.1 ∙ last_or-snoc x b.0 y)
