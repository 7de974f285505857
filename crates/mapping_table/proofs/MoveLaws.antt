-- Items that move to lower places, one by one.
use Rattle.std.proofs.Common.{◌≡◌, refl, sym, ◌∙◌, ap, ℕ, ◌+◌, ◌-◌, ◌<◌, ◌≤◌, ◌⊎◌, inl, inr, List, ◌++◌, length, get_or, map, take, drop, arith, append_assoc, length-append, length-drop, length-take-le}
use Rattle.std.proofs.Math.ListN.{set, length-set}
use Rattle.std.proofs.lemmas.Bool.{cases_lt}
use Rattle.std.proofs.lemmas.List.{length-map, get_or_default, get_or_append_left, get_or-append_right, get_or-set_other, get_or-map, get_or-take, get_or-drop, same_lists}
use Rattle.std.proofs.lemmas.Grind.{get_or-set_at}
use Rattle.mapping_table.specs.Spared.{IsMoved}

module _ {X : Type 0} where
  -- no item has moved yet
  pub moved-none : (g : X → X) (first n to : ℕ) (xs : List X) → to ≡ first + n → IsMoved g first n to xs xs
  moved-none g first n to xs e = record {
    long = refl;
    before = λ j d h. refl;
    moved = λ j d h k. absurd (omega arith);
    behind = λ j d h. refl;
  }

  -- item i takes the place after the item that moved last
  pub moved-more : (g : X → X) (first n i to next : ℕ) (old new : List X) (x d : X) → first ≤ i → to ≡ i + n → next ≡ i + 1 + n → i + n < length old
      → IsMoved g first n to old new → x ≡ g (get_or new (i + n) d) → IsMoved g first n next old (set new i x)
  moved-more g first n i to next old new x d f t s h so e = record {
    long = length-set new i x ∙ so.long;
    before = λ j c k. get_or-set_other new i j x c (omega arith) ∙ so.before j c k;
    moved = λ j c k l. go j c k l (cases_lt j i);
    behind = λ j c k. get_or-set_other new i j x c (omega arith) ∙ so.behind j c (omega arith);
  } where
    go : (j : ℕ) (c : X) → first ≤ j → j + n < next → (j < i) ⊎ (i ≤ j) → get_or (set new i x) j c ≡ g (get_or old (j + n) c)
    go j c k l (inl b) = get_or-set_other new i j x c (omega arith) ∙ so.moved j c k (omega arith)
    go j c k l (inr b) =
        let same : j ≡ i = omega arith in
        let inside : i < length new = omega (arith, so.long) in
        get_or-set_at new i j x c same inside ∙ e ∙ ap g (so.behind (i + n) d (omega arith) ∙ get_or_default old (i + n) d c h) ∙ ap (λ k. g (get_or old (k + n) c)) (sym same)

  -- all items have moved, and the rest after them is cut off
  pub moved-all : (g : X → X) (first n to len : ℕ) (old new : List X) → to ≡ length old → first + n ≤ length old → len ≡ length old - n
      → IsMoved g first n to old new → take len new ≡ take first old ++ map g (drop (first + n) old)
  moved-all g first n to len old new t h m so = same_lists (take len new) (take first old ++ map g (drop (first + n) old)) (a ∙ sym b) at where
    a : length (take len new) ≡ len
    a = length-take-le len new (omega (arith, so.long))

    front : length (take first old) ≡ first
    front = length-take-le first old (omega arith)

    back : length (map g (drop (first + n) old)) ≡ length old - (first + n)
    back = length-map (drop (first + n) old) g ∙ length-drop (first + n) old

    b : length (take first old ++ map g (drop (first + n) old)) ≡ len
    b = length-append (take first old) (map g (drop (first + n) old)) ∙ omega (arith, front, back)

    go : (k : ℕ) (d : X) → k < len → (k < first) ⊎ (first ≤ k) → get_or new k d ≡ get_or (take first old ++ map g (drop (first + n) old)) k d
    go k d l (inl c) = so.before k d c ∙ sym (get_or-take first old k d c) ∙ sym (get_or_append_left (take first old) (map g (drop (first + n) old)) d k (omega (arith, front)))
    go k d l (inr c) =
        let place : first + n + (k - first) ≡ k + n = omega arith in
        so.moved k d c (omega arith) ∙ ap (λ j. g (get_or old j d)) (sym place) ∙ ap g (sym (get_or-drop (first + n) old (k - first) d))
        ∙ sym (get_or-map g (drop (first + n) old) (k - first) d d (omega (arith, length-drop (first + n) old)))
        ∙ sym (get_or-append_right (take first old) (map g (drop (first + n) old)) first k d front c)

    at : (k : ℕ) (d : X) → k < length (take len new) → get_or (take len new) k d ≡ get_or (take first old ++ map g (drop (first + n) old)) k d
    at k d l = let within : k < len = omega (arith, a) in get_or-take len new k d within ∙ go k d within (cases_lt k first)

  -- the n items from `first` on are passed through g, and keep their places
  pub passed-all : (g : X → X) (first n to : ℕ) (old new : List X) → to ≡ first + n → first + n ≤ length old
      → IsMoved g first 0 to old new → new ≡ take first old ++ map g (take n (drop first old)) ++ drop (first + n) old
  passed-all g first n to old new t h so = same_lists new (take first old ++ (map g (take n (drop first old)) ++ drop (first + n) old)) (so.long ∙ sym b) (λ k d l. go k d (omega (arith, so.long)) (cases_lt k first) (cases_lt k to)) ∙ sym (append_assoc (take first old) (map g (take n (drop first old))) (drop (first + n) old)) where
    front : length (take first old) ≡ first
    front = length-take-le first old (omega arith)

    mid : length (map g (take n (drop first old))) ≡ n
    mid = length-map (take n (drop first old)) g ∙ length-take-le n (drop first old) (omega (arith, length-drop first old))

    back : length (drop (first + n) old) ≡ length old - (first + n)
    back = length-drop (first + n) old

    b : length (take first old ++ (map g (take n (drop first old)) ++ drop (first + n) old)) ≡ length old
    b = omega (arith, length-append (take first old) (map g (take n (drop first old)) ++ drop (first + n) old), length-append (map g (take n (drop first old))) (drop (first + n) old), front, mid, back)

    behind : (k : ℕ) (d : X) → first ≤ k → get_or (take first old ++ (map g (take n (drop first old)) ++ drop (first + n) old)) k d ≡ get_or (map g (take n (drop first old)) ++ drop (first + n) old) (k - first) d
    behind k d c = get_or-append_right (take first old) (map g (take n (drop first old)) ++ drop (first + n) old) first k d front c

    go : (k : ℕ) (d : X) → k < length old → (k < first) ⊎ (first ≤ k) → (k < to) ⊎ (to ≤ k) → get_or new k d ≡ get_or (take first old ++ (map g (take n (drop first old)) ++ drop (first + n) old)) k d
    go k d l (inl c) e = so.before k d c ∙ sym (get_or-take first old k d c) ∙ sym (get_or_append_left (take first old) (map g (take n (drop first old)) ++ drop (first + n) old) d k (omega (arith, front)))
    go k d l (inr c) (inl e) =
        let place : first + (k - first) ≡ k + 0 = omega arith in
        so.moved k d c (omega arith) ∙ ap (λ j. g (get_or old j d)) (sym place) ∙ ap g (sym (get_or-drop first old (k - first) d))
        ∙ ap g (sym (get_or-take n (drop first old) (k - first) d (omega arith)))
        ∙ sym (get_or-map g (take n (drop first old)) (k - first) d d (omega (arith, length-take-le n (drop first old) (omega (arith, length-drop first old)))))
        ∙ sym (get_or_append_left (map g (take n (drop first old))) (drop (first + n) old) d (k - first) (omega (arith, mid))) ∙ sym (behind k d c)
    go k d l (inr c) (inr e) =
        let place : first + n + ((k - first) - n) ≡ k = omega arith in
        so.behind k d (omega arith) ∙ ap (λ j. get_or old j d) (sym place) ∙ sym (get_or-drop (first + n) old ((k - first) - n) d)
        ∙ sym (get_or-append_right (map g (take n (drop first old))) (drop (first + n) old) n (k - first) d mid (omega arith)) ∙ sym (behind k d c)
