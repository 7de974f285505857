-- How the table changes when a seat takes the berths of a slot or gives them back.
use Rattle.std.proofs.Common.{◌≡◌, ◌≢◌, ℕ, zero, suc, ◌+◌, ◌*◌, ◌<◌, ◌≤◌, refl, ap, ◌∙◌, arith, List, [], ◌∷◌, length, replicate, get_or, set, length-set, Option, Some, None}
use mathlib.Core.Option.{none, some}
use mathlib.Core.Option as maybe
use lib.ListN.{get_elem?}
use Rattle.atomic_table.specs.Table.{Act, keeps, takes, gives, chain, homes_after, carried_after, Valid}
use Rattle.atomic_table.proofs.Lists.{set_here, set_else}
use Rattle.history_laws.specs.States.{AllShow}
use Rattle.gen_slots.specs.SlotSteps.{berths}

module _ {T : Type 0} where
  abbrev pub take_all : ℕ → ℕ → List (Option T) → Act (Option T)
  take_all s k [] = keeps
  take_all s k (y ∷ ys) = chain (take_all s (k + 1) ys) (takes (32 * k + s) y)

  -- these values are at home from the k-th berth of the slot s on
  abbrev pub Lined : List (maybe.Option (Option T)) → ℕ → ℕ → List (Option T) → Type 0
  Lined hs s k [] = Unit {0}
  Lined hs s k (y ∷ ys) = (get_elem? hs (32 * k + s) ≡ some (some y)) × Lined hs s (k + 1) ys

  -- berths that are at home with values of one state
  pub shown_row : {X : Type 0} (state : T → X) (x : X) (hs : List (maybe.Option (Option T))) (s m k : ℕ) → ((r : ℕ) → r < k + m → (v : T) × (get_elem? hs (32 * r + s) ≡ some (some (Some v))) × (state v ≡ x))
      → (ys : List (Option T)) × (length ys ≡ m) × Lined hs s k ys × AllShow state x ys
  shown_row state x hs s zero k each = ([], refl, tt, tt)
  shown_row state x hs s (suc m) k each = let v = each k (omega arith) in let rest = shown_row state x hs s m (k + 1) (λ r l. each r (omega arith)) in (Some v.0 ∷ rest.0, ap suc rest.1, (v.1, rest.2), (v.2, rest.3))

  -- berths that are at home and empty
  pub empty_row : (hs : List (maybe.Option (Option T))) (s m k : ℕ) → ((r : ℕ) → r < k + m → get_elem? hs (32 * r + s) ≡ some (some None)) → (length (replicate {A = Option T} m None) ≡ m) × Lined hs s k (replicate m None)
  empty_row hs s zero k each = (refl, tt)
  empty_row hs s (suc m) k each = let rest = empty_row hs s m (k + 1) (λ r l. each r (omega arith)) in (ap suc rest.0, (each k (omega arith), rest.1))

  pub taken_else : (hs : List (maybe.Option (Option T))) (c : List (ℕ × Option T)) (s k : ℕ) (ys : List (Option T)) (j : ℕ) → ((i : ℕ) → k ≤ i → i < k + length ys → j ≢ 32 * i + s) → get_elem? (homes_after hs c (take_all s k ys)) j ≡ get_elem? hs j
  taken_else hs c s k [] j apart = refl
  taken_else hs c s k (y ∷ ys) j apart = set_else (homes_after hs c (take_all s (k + 1) ys)) (32 * k + s) j none (apart k (omega arith) (omega arith)) ∙ taken_else hs c s (k + 1) ys j (λ i l m. apart i (omega arith) (omega arith))

  pub taken_length : (hs : List (maybe.Option (Option T))) (c : List (ℕ × Option T)) (s k : ℕ) (ys : List (Option T)) → length (homes_after hs c (take_all s k ys)) ≡ length hs
  taken_length hs c s k [] = refl
  taken_length hs c s k (y ∷ ys) = length-set (homes_after hs c (take_all s (k + 1) ys)) (32 * k + s) none ∙ taken_length hs c s (k + 1) ys

  pub take_carried : (s k : ℕ) (ys : List (Option T)) → carried_after [] (take_all s k ys) ≡ berths s k ys
  take_carried s k [] = refl
  take_carried s k (y ∷ ys) = ap (λ (z : List (ℕ × Option T)). (32 * k + s, y) ∷ z) (take_carried s (k + 1) ys)

  pub take_valid : (hs : List (maybe.Option (Option T))) (c : List (ℕ × Option T)) (s k : ℕ) (ys : List (Option T)) → Lined hs s k ys → Valid hs c (take_all s k ys)
  take_valid hs c s k [] l = tt
  take_valid hs c s k (y ∷ ys) l = (take_valid hs c s (k + 1) ys l.1, taken_else hs c s (k + 1) ys (32 * k + s) (λ i a b. λ e. omega arith) ∙ l.0)

  abbrev pub give_all : List (Option T) → Act (Option T)
  give_all [] = keeps
  give_all (y ∷ ys) = chain gives (give_all ys)

  pub give_valid : (hs : List (maybe.Option (Option T))) (c : List (ℕ × Option T)) (ys : List (Option T)) → Valid hs c (give_all ys)
  give_valid hs c [] = tt
  give_valid hs c (y ∷ ys) = (tt, give_valid (homes_after hs c gives) (carried_after c gives) ys)

  pub given_carried : (s k : ℕ) (ys : List (Option T)) → carried_after (berths s k ys) (give_all ys) ≡ []
  given_carried s k [] = refl
  given_carried s k (y ∷ ys) = given_carried s (k + 1) ys

  pub given_length : (hs : List (maybe.Option (Option T))) (s k : ℕ) (ys : List (Option T)) → length (homes_after hs (berths s k ys) (give_all ys)) ≡ length hs
  given_length hs s k [] = refl
  given_length hs s k (y ∷ ys) = given_length (set hs (32 * k + s) (some y)) s (k + 1) ys ∙ length-set hs (32 * k + s) (some y)

  pub given_else : (hs : List (maybe.Option (Option T))) (s k : ℕ) (ys : List (Option T)) (j : ℕ) → ((i : ℕ) → k ≤ i → i < k + length ys → j ≢ 32 * i + s) → get_elem? (homes_after hs (berths s k ys) (give_all ys)) j ≡ get_elem? hs j
  given_else hs s k [] j apart = refl
  given_else hs s k (y ∷ ys) j apart = given_else (set hs (32 * k + s) (some y)) s (k + 1) ys j (λ i l m. apart i (omega arith) (omega arith)) ∙ set_else hs (32 * k + s) j (some y) (apart k (omega arith) (omega arith))

  pub given_at : (hs : List (maybe.Option (Option T))) (s k : ℕ) (ys : List (Option T)) (i : ℕ) (d : Option T) → i < length ys → 32 * (k + i) + s < length hs → get_elem? (homes_after hs (berths s k ys) (give_all ys)) (32 * (k + i) + s) ≡ some (some (get_or ys i d))
  given_at hs s k [] i d l in_hs = absurd (omega arith)
  given_at hs s k (y ∷ ys) zero d l in_hs = given_else (set hs (32 * k + s) (some y)) s (k + 1) ys (32 * (k + 0) + s) (λ a b c e. omega arith)
      ∙ (let e : 32 * (k + 0) + s ≡ 32 * k + s = omega arith in ap (get_elem? (set hs (32 * k + s) (some y))) e ∙ set_here hs (32 * k + s) (some y) (omega arith))
  given_at hs s k (y ∷ ys) (suc i) d l in_hs = let e : 32 * (k + suc i) + s ≡ 32 * (k + 1 + i) + s = omega arith in
      ap (get_elem? (homes_after (set hs (32 * k + s) (some y)) (berths s (k + 1) ys) (give_all ys))) e ∙ given_at (set hs (32 * k + s) (some y)) s (k + 1) ys i d (omega arith) (let n = length-set hs (32 * k + s) (some y) in omega (arith, n))

  -- the row of a slot's berths has the values
  pub berths_same : (c i : ℕ) (ys zs : List (Option T)) → berths c i ys ≡ berths c i zs → ys ≡ zs
  berths_same c i [] [] e = refl
  berths_same c i [] (z ∷ zs) e = absurd (cc)
  berths_same c i (y ∷ ys) [] e = absurd (cc)
  berths_same c i (y ∷ ys) (z ∷ zs) e = let pair : Path (ℕ × Option T) (32 * i + c, y) (32 * i + c, z) = cc in let head : y ≡ z = ap (λ (t : ℕ × Option T). t.1) pair in let rest : berths c (i + 1) ys ≡ berths c (i + 1) zs = cc in let tails = berths_same c (i + 1) ys zs rest in λ j. head j ∷ tails j
