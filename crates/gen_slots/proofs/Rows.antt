-- The berths of one slot in a row. Each is refilled and then goes to the end of the row.
use Rattle.std.proofs.Common.{◌≡◌, ℕ, suc, ◌+◌, ◌*◌, ◌<◌, ◌≤◌, sym, ap, ◌∙◌, arith, List, [], ◌∷◌, ◌++◌, length, take, drop, get_or, set, Option, None, append_assoc}
use Rattle.std.proofs.lemmas.List.{take_more, take_more_set, take-set, drop_more, drop-set-lt, length-take-le, drop_all, take_all}
use Rattle.atomic_table.specs.Table.{rest, turned}
use Rattle.gen_slots.specs.SlotSteps.{berths}

pub same_drop : {A : Type 0} (xs ys : List A) (i : ℕ) (d : A) → i < length xs → i < length ys → drop i xs ≡ drop i ys → (get_or xs i d ≡ get_or ys i d) × (drop (i + 1) xs ≡ drop (i + 1) ys)
same_drop xs ys i d l m e = let a = drop_more xs i d l in let b = drop_more ys i d m in let f : get_or xs i d ∷ drop (i + 1) xs ≡ get_or ys i d ∷ drop (i + 1) ys = sym a ∙ (e ∙ b) in (cc, cc)

-- the same if the i-th item is written twice
pub same_drop_set : {A : Type 0} (xs ys : List A) (i : ℕ) (a b d : A) → i < length xs → i < length ys → drop i xs ≡ drop i ys → drop (i + 1) (set (set xs i a) i b) ≡ drop (i + 1) ys
same_drop_set xs ys i a b d l m e = drop-set-lt (i + 1) (set xs i a) i b (omega arith) ∙ (drop-set-lt (i + 1) xs i a (omega arith) ∙ (same_drop xs ys i d l m e).1)

-- The first i items are those of ys. The i-th is written twice, and the second time it is the item
-- of ys.
pub same_take_set : {A : Type 0} (xs ys : List A) (i : ℕ) (a b d : A) → i < length (set xs i a) → i < length ys → take i xs ≡ take i ys → b ≡ get_or ys i d → take (i + 1) (set (set xs i a) i b) ≡ take (i + 1) ys
same_take_set {A} xs ys i a b d l m e is = take_more_set (set xs i a) i b l ∙ (ap (λ (z : List A). z ++ b ∷ []) (take-set xs i a ∙ e) ∙ (ap (λ (z : A). take i ys ++ z ∷ []) is ∙ sym (take_more ys i d m)))

module _ {T : Type 0} where
  berths-snoc : (s k : ℕ) (xs : List (Option T)) (v : Option T) → berths s k (xs ++ v ∷ []) ≡ berths s k xs ++ (32 * (k + length xs) + s, v) ∷ []
  berths-snoc s k [] v = let e : k ≡ k + 0 = omega arith in λ i. (32 * e i + s, v) ∷ []
  berths-snoc s k (x ∷ xs) v = let e : k + 1 + length xs ≡ k + suc (length xs) = omega arith in
      ap (λ (z : List (ℕ × Option T)). (32 * k + s, x) ∷ z) (berths-snoc s (k + 1) xs v ∙ ap (λ (z : ℕ). berths s (k + 1) xs ++ (32 * z + s, v) ∷ []) e)

  module _ {V : Type 0} (s i : ℕ) (ys values : List (Option T)) (v₀ : V) where
    -- the row of ys after i values were put
    abbrev pub Row : V × List (ℕ × Option T) → Type 0
    Row me = me ≡ (v₀, berths s i (drop i ys) ++ berths s 0 (take i values))

    row_is : (me : V × List (ℕ × Option T)) → i < length ys → Row me → me.1 ≡ (32 * i + s, get_or ys i None) ∷ berths s (i + 1) (drop (i + 1) ys) ++ berths s 0 (take i values)
    row_is me l row = ap (λ (m : V × List (ℕ × Option T)). m.1) row ∙ ap (λ (z : List (Option T)). berths s i z ++ berths s 0 (take i values)) (drop_more ys i None l)

    pub row_first : (me : V × List (ℕ × Option T)) → i < length ys → Row me → (y : Option T) × (me.1 ≡ (32 * i + s, y) ∷ rest me.1)
    row_first me l row = let e = row_is me l row in (get_or ys i None, e ∙ ap (λ (z : List (ℕ × Option T)). (32 * i + s, get_or ys i None) ∷ z) (sym (ap (rest {S = Option T}) e)))

    -- what is found in its place
    pub row_found : (me : V × List (ℕ × Option T)) (y : Option T) → i < length ys → Row me → me.1 ≡ (32 * i + s, y) ∷ rest me.1 → y ≡ get_or ys i None
    row_found me y l row found = let e : (32 * i + s, y) ∷ rest me.1 ≡ (32 * i + s, get_or ys i None) ∷ berths s (i + 1) (drop (i + 1) ys) ++ berths s 0 (take i values) = sym found ∙ row_is me l row in
        let pair : Path (ℕ × Option T) (32 * i + s, y) (32 * i + s, get_or ys i None) = cc in ap (λ (t : ℕ × Option T). t.1) pair

    pub row_next : (me me' me'' : V × List (ℕ × Option T)) (v d : Option T) → i < length ys → i < length values → Row me → me' ≡ (me.0, (32 * i + s, v) ∷ rest me.1) → me'' ≡ (me'.0, turned me'.1) → v ≡ get_or values i d
        → me'' ≡ (v₀, berths s (i + 1) (drop (i + 1) ys) ++ berths s 0 (take (i + 1) values))
    row_next me me' me'' v d l m row put turns is = let B : List (ℕ × Option T) = berths s 0 (take i values) in let D : List (ℕ × Option T) = berths s (i + 1) (drop (i + 1) ys) in
        let r : me'.1 ≡ (32 * i + s, v) ∷ D ++ B = ap (λ (m : V × List (ℕ × Option T)). m.1) put ∙ ap (λ (z : List (ℕ × Option T)). (32 * i + s, v) ∷ rest z) (row_is me l row) in
        let size : 0 + length (take i values) ≡ i = omega (arith, length-take-le i values (omega arith)) in
        let last : B ++ (32 * i + s, v) ∷ [] ≡ berths s 0 (take (i + 1) values) = ap (λ (z : ℕ). B ++ (32 * z + s, v) ∷ []) (sym size) ∙ (sym (berths-snoc s 0 (take i values) v) ∙ ap (berths s 0) (ap (λ (z : Option T). take i values ++ z ∷ []) is ∙ sym (take_more values i d m))) in
        let t : me''.1 ≡ D ++ berths s 0 (take (i + 1) values) = ap (λ (m : V × List (ℕ × Option T)). m.1) turns ∙ (ap (turned {S = Option T}) r ∙ (append_assoc D B ((32 * i + s, v) ∷ []) ∙ ap (λ (z : List (ℕ × Option T)). D ++ z) last)) in
        let h : me''.0 ≡ v₀ = ap (λ (m : V × List (ℕ × Option T)). m.0) turns ∙ (ap (λ (m : V × List (ℕ × Option T)). m.0) put ∙ ap (λ (m : V × List (ℕ × Option T)). m.0) row) in
        λ j. (h j, t j)

  -- the row after all values were put
  pub row_last : {V : Type 0} (s i : ℕ) (ys values : List (Option T)) (v₀ : V) (me : V × List (ℕ × Option T)) → length ys ≤ i → length values ≤ i → Row s i ys values v₀ me → me ≡ (v₀, berths s 0 values)
  row_last s i ys values v₀ me all_ys all_values row = row ∙ (λ j. (v₀, berths s i (drop_all i ys all_ys j) ++ berths s 0 (take_all i values all_values j)))
