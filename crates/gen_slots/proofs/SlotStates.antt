-- The states of the slots that were used.
use Rattle.std.proofs.Common.{◌≡◌, ℕ, zero, suc, ◌+◌, ◌-◌, ◌<◌, List, [], ◌∷◌, length, get_or, set, refl, sym, ap, ◌∙◌, subst, arith, Option, Some, None}
use mathlib.Core.Option.{some, some-injective, some-ne-none}
use lib.ListN.{get_elem?}
use Rattle.gen_slots.specs.declared.board.Plan.{Plan}
use Rattle.gen_slots.specs.declared.board.Role.{Role}
use Rattle.gen_slots.specs.declared.board.Role.TheVariants.{Keeper}
use Rattle.gen_slots.specs.SlotSteps.{slot_states, berths, WereStored}
use Rattle.gen_slots.specs.SlotViews.{states_of}
use Rattle.gen_slots.proofs.Takes.{berths_same}

module _ {X : Type 0} where
  pub state_unused : (ss : List ℕ) (xs : List X) (k : ℕ) → get_or ss k 0 ≡ 0 → get_or (slot_states ss xs) k None ≡ None
  state_unused [] xs k free = refl
  state_unused (s ∷ ss) [] k free = refl
  state_unused (zero ∷ ss) (x ∷ xs) zero free = refl
  state_unused (zero ∷ ss) (x ∷ xs) (suc k) free = state_unused ss xs k free
  state_unused (suc s ∷ ss) (x ∷ xs) zero free = absurd (omega arith)
  state_unused (suc s ∷ ss) (x ∷ xs) (suc k) free = state_unused ss xs k free

  pub state_used : (ss : List ℕ) (xs : List X) (k : ℕ) (x : X) → 0 < get_or ss k 0 → get_elem? xs k ≡ some x → get_or (slot_states ss xs) k None ≡ Some x
  state_used [] xs k x used at = absurd (omega arith)
  state_used (s ∷ ss) [] k x used at = absurd (some-ne-none x (sym at))
  state_used (zero ∷ ss) (y ∷ xs) zero x used at = absurd (omega arith)
  state_used (zero ∷ ss) (y ∷ xs) (suc k) x used at = state_used ss xs k x used at
  state_used (suc s ∷ ss) (y ∷ xs) zero x used at = ap Some (some-injective y x at)
  state_used (suc s ∷ ss) (y ∷ xs) (suc k) x used at = state_used ss xs k x used at

  -- the slot k is found free, and published
  pub state_taken : (ss : List ℕ) (xs : List X) (k : ℕ) (o : Option X) → set (slot_states (set ss k 0) xs) k o ≡ set (slot_states ss xs) k o
  state_taken [] xs k o = refl
  state_taken (s ∷ ss) [] zero o = refl
  state_taken (s ∷ ss) [] (suc k) o = refl
  state_taken (zero ∷ ss) (x ∷ xs) zero o = refl
  state_taken (suc s ∷ ss) (x ∷ xs) zero o = refl
  state_taken (zero ∷ ss) (x ∷ xs) (suc k) o = ap (λ (z : List (Option X)). None ∷ z) (state_taken ss xs k o)
  state_taken (suc s ∷ ss) (x ∷ xs) (suc k) o = ap (λ (z : List (Option X)). Some x ∷ z) (state_taken ss xs k o)

  pub state_set : (ss : List ℕ) (xs : List X) (k : ℕ) (x : X) → slot_states (set ss k 2) (set xs k x) ≡ set (slot_states ss xs) k (Some x)
  state_set [] xs k x = refl
  state_set (s ∷ ss) [] zero x = refl
  state_set (s ∷ ss) [] (suc k) x = refl
  state_set (zero ∷ ss) (y ∷ xs) zero x = refl
  state_set (suc s ∷ ss) (y ∷ xs) zero x = refl
  state_set (zero ∷ ss) (y ∷ xs) (suc k) x = ap (λ (z : List (Option X)). None ∷ z) (state_set ss xs k x)
  state_set (suc s ∷ ss) (y ∷ xs) (suc k) x = ap (λ (z : List (Option X)). Some y ∷ z) (state_set ss xs k x)

  -- a used slot retires
  pub state_retired : (ss : List ℕ) (xs : List X) (k : ℕ) → 0 < get_or ss k 0 → slot_states (set ss k 1) xs ≡ slot_states ss xs
  state_retired [] xs k used = refl
  state_retired (s ∷ ss) [] zero used = refl
  state_retired (s ∷ ss) [] (suc k) used = refl
  state_retired (zero ∷ ss) (x ∷ xs) zero used = absurd (omega arith)
  state_retired (suc s ∷ ss) (x ∷ xs) zero used = refl
  state_retired (zero ∷ ss) (x ∷ xs) (suc k) used = ap (λ (z : List (Option X)). None ∷ z) (state_retired ss xs k used)
  state_retired (suc s ∷ ss) (x ∷ xs) (suc k) used = ap (λ (z : List (Option X)). Some x ∷ z) (state_retired ss xs k used)

  -- what the writer's seat knows of the slots after it took the slot c and published it
  pub states_after : (p p' : Plan X) (c : ℕ) (x : X) (role role' : Role X) → role ≡ Keeper p → role' ≡ Keeper p'
      → slot_states p'.standing p'.states ≡ set (slot_states (set p.standing c 0) p.states) (c + 1 - 1) (Some x) → states_of role' ≡ set (states_of role) c (Some x)
  states_after p p' c x role role' is is' put = let index : c + 1 - 1 ≡ c = omega arith in
      ap states_of is' ∙ (put ∙ (ap (λ (i : ℕ). set (slot_states (set p.standing c 0) p.states) i (Some x)) index ∙ (state_taken p.standing p.states c (Some x) ∙ ap (λ (z : Role X). set (states_of z) c (Some x)) (sym is))))

module _ {T X : Type 0} (state : T → X) where
  -- The caller has what was in the berths of the slot c.
  pub stored_as : (made made' : List X) (n n' : ℕ) (o o' : Option X) (c : ℕ) (ys zs : List (Option T)) → length ys ≡ n → WereStored state made n o ys → made ≡ made' → n ≡ n' → o ≡ o' → berths c 0 ys ≡ berths c 0 zs
      → (length zs ≡ n') × WereStored state made' n' o' zs
  stored_as made made' n n' o o' c ys zs size stored made_is readers state_is same = let e = berths_same c 0 ys zs same in
      (ap length (sym e) ∙ (size ∙ readers), subst (λ (z : List X × ℕ × Option X × List (Option T)). WereStored state z.0 z.1 z.2 z.3) (λ i. (made_is i, readers i, state_is i, e i)) stored)
