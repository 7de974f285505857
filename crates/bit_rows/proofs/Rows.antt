-- What each change of the words does to the row.
use Rattle.std.proofs.Common.{◌≡◌, refl, sym, ◌∙◌, ap, ℕ, zero, suc, ◌+◌, ◌-◌, ◌*◌, ◌/◌, ◌%◌, ◌^◌, ◌<◌, ◌≤◌, ◌⊎◌, Bool, true, false, cond, not, ◌&&◌, ◌||◌, nat_lt, List, [], ◌∷◌, ◌++◌, map, length, get_or, take, drop, replicate, zip, arith, inl, inr}
use Rattle.std.proofs.lemmas.Bool.{cases_lt, cond-true, cond-false, lt-ltb}
use Rattle.std.proofs.lemmas.List.{get_or_past, length-map, length-append, length-take, length-drop, length-replicate, get_or_append_left, get_or-append_right, get_or-replicate, get_or-take, get_or-drop, get_or_push, length_push}
use Rattle.std.proofs.lemmas.Slice.Zip.{length-zip}
use Rattle.set_model.specs.Runs.{without_run}
use Rattle.bit_rows.specs.Row.{bit, at, both, either, with_run, lies, IsNextSet, IsCleared, IsWordPut, IsSpelling}
use Rattle.bit_rows.specs.Words.{bit_in, first_bits, IsRow, IsClearFrom, IsNextPlace}
use Rattle.bit_rows.proofs.Tests.{and-false, and-true, or-false, or-true, lies-in, lies-below, lies-above, by-run}
use Rattle.bit_rows.proofs.Bits.{place-is, place-past, bits-same, bits-read, bits-at, length-bits}

-- ---- the row of a list of words

-- words of the same number, whose places from len on are clear
pub row-kept : (old new : List ℕ) (before len : ℕ) → IsRow old before → length new ≡ length old → len ≤ 64 * length old → IsClearFrom new len → IsRow new len
row-kept old new before len row e within clear = record {
  steps = ap (λ n. n % 8) e ∙ row.steps;
  small = let s = row.small in omega arith;
  within = omega arith;
  clear = clear;
}

pub row-zeros : (new : List ℕ) (m len : ℕ) → m % 8 ≡ 0 → m ≤ 2 ^ 26 → len ≤ 64 * m → length new ≡ m → ((i : ℕ) → bit_in new i ≡ false) → IsRow new len
row-zeros new m len a b c e clear = record { steps = ap (λ n. n % 8) e ∙ a; small = omega arith; within = omega arith; clear = λ i h. clear i }

pub bits-zeros : (new : List ℕ) (len : ℕ) → ((i : ℕ) → bit_in new i ≡ false) → first_bits new len ≡ replicate len false
bits-zeros new len clear = bits-same new len (replicate len false) (length-replicate len false) (λ i h. clear i ∙ sym (get_or-replicate len i false false h))

-- ---- more words

pub place-nil : (i : ℕ) → bit_in [] i ≡ false
place-nil i = place-past [] i (omega arith)

grown-word : (old : List ℕ) (n k : ℕ) → get_or (old ++ replicate n 0) k 0 ≡ get_or old k 0
grown-word old n k = go (cases_lt k (length old)) (cases_lt (k - length old) n) where
  go : (k < length old) ⊎ (length old ≤ k) → (k - length old < n) ⊎ (n ≤ k - length old) → get_or (old ++ replicate n 0) k 0 ≡ get_or old k 0
  go (inl l) b = get_or_append_left old (replicate n 0) 0 k l
  go (inr l) (inl b) = get_or-append_right old (replicate n 0) (length old) k 0 refl l ∙ get_or-replicate n (k - length old) 0 0 b ∙ sym (get_or_past old k 0 l)
  go (inr l) (inr b) =
      get_or-append_right old (replicate n 0) (length old) k 0 refl l ∙ get_or_past (replicate n 0) (k - length old) 0 (rw length-replicate b) ∙ sym (get_or_past old k 0 l)

pub grown-place : (old new : List ℕ) (n : ℕ) → new ≡ old ++ replicate n 0 → (i : ℕ) → bit_in new i ≡ bit_in old i
grown-place old new n e i =
    place-is new i ∙ ap (λ words. bit (get_or words (i / 64) 0) (i % 64)) e ∙ ap (λ w. bit w (i % 64)) (grown-word old n (i / 64)) ∙ sym (place-is old i)

-- the same places
pub bits-like : (old new : List ℕ) (len : ℕ) → ((i : ℕ) → bit_in new i ≡ bit_in old i) → first_bits new len ≡ first_bits old len
bits-like old new len same = bits-same new len (first_bits old len) (length-bits old len) (λ i h. same i ∙ sym (bits-at old len i h))

-- ---- places at the end

pub bits-push : (old new : List ℕ) (len : ℕ) (b : Bool) → IsClearFrom old len → ((i : ℕ) → bit_in new i ≡ (bit_in old i || (b && lies len (len + 1) i)))
    → first_bits new (len + 1) ≡ first_bits old len ++ b ∷ []
bits-push old new len b clear places =
    bits-same new (len + 1) (first_bits old len ++ b ∷ []) (length_push (first_bits old len) b ∙ ap (λ n. n + 1) (length-bits old len)) (λ i h. places i ∙ go i (cases_lt i len) h) where
      go : (i : ℕ) → (i < len) ⊎ (len ≤ i) → i < len + 1 → (bit_in old i || (b && lies len (len + 1) i)) ≡ at (first_bits old len ++ b ∷ []) i
      go i (inl l) h =
          or-false (bit_in old i) _ (and-false b _ (lies-below len (len + 1) i l)) ∙ sym (bits-at old len i l)
          ∙ sym (get_or_append_left (first_bits old len) (b ∷ []) false i (omega (arith, length-bits old len)))
      go i (inr l) h =
          let e : i ≡ len = omega arith in
          ap (λ t. t || (b && lies len (len + 1) i)) (clear i l) ∙ and-true b _ (lies-in len (len + 1) i l h)
          ∙ sym (get_or_push (first_bits old len) b false i (length-bits old len ∙ sym e))

pub bits-push_zeros : (words : List ℕ) (len n : ℕ) → IsClearFrom words len → first_bits words (len + n) ≡ first_bits words len ++ replicate n false
bits-push_zeros words len n clear =
    bits-same words (len + n) (first_bits words len ++ replicate n false) (simp (length-append, length-replicate, length-bits) refl) (λ i h. go i (cases_lt i len) h) where
      go : (i : ℕ) → (i < len) ⊎ (len ≤ i) → i < len + n → bit_in words i ≡ at (first_bits words len ++ replicate n false) i
      go i (inl l) h = sym (bits-at words len i l) ∙ sym (get_or_append_left (first_bits words len) (replicate n false) false i (omega (arith, length-bits words len)))
      go i (inr l) h =
          clear i l
          ∙ sym (get_or-append_right (first_bits words len) (replicate n false) len i false (length-bits words len) l ∙ get_or-replicate n (i - len) false false (omega arith))

-- ---- runs

clear-run : (old new : List ℕ) (before len from to : ℕ) (b : Bool) → before ≤ len → to ≤ len → IsClearFrom old before → ((i : ℕ) → bit_in new i ≡ (bit_in old i || (b && lies from to i))) → IsClearFrom new len
clear-run old new before len from to b more within clear places i h =
    places i ∙ or-false (bit_in old i) (b && lies from to i) (and-false b (lies from to i) (lies-above from to i (omega arith))) ∙ clear i (omega arith)

pub row-run : (old new : List ℕ) (before len from to : ℕ) (b : Bool) → IsRow old before → before ≤ len → to ≤ len → len ≤ 64 * length old → length new ≡ length old
    → ((i : ℕ) → bit_in new i ≡ (bit_in old i || (b && lies from to i))) → IsRow new len
row-run old new before len from to b row more within room long places =
    row-kept old new before len row long room (clear-run old new before len from to b more within row.clear places)

pub length-run : (xs : List Bool) (from n : ℕ) → from + n ≤ length xs → length (with_run xs from n) ≡ length xs
length-run xs from n h =
    simp (length-append, length-take, length-replicate, length-drop) (omega arith)

pub at-run : (xs : List Bool) (from n i : ℕ) → from + n ≤ length xs → at (with_run xs from n) i ≡ (at xs i || lies from (from + n) i)
at-run xs from n i h = by-run from (from + n) i (λ t. at (take from xs ++ (replicate n true ++ drop (from + n) xs)) i ≡ (at xs i || t)) inside below above where
  front : length (take from xs) ≡ from
  front = omega (arith, length-take from xs)

  inside : from ≤ i → i < from + n → at (take from xs ++ (replicate n true ++ drop (from + n) xs)) i ≡ (at xs i || true)
  inside a b =
      get_or-append_right (take from xs) (replicate n true ++ drop (from + n) xs) from i false front a
      ∙ get_or_append_left (replicate n true) (drop (from + n) xs) false (i - from) (rw length-replicate (omega (arith, front))) ∙ get_or-replicate n (i - from) true false (omega arith)
      ∙ sym (or-true (at xs i) true refl)

  below : i < from → at (take from xs ++ (replicate n true ++ drop (from + n) xs)) i ≡ (at xs i || false)
  below a =
      get_or_append_left (take from xs) (replicate n true ++ drop (from + n) xs) false i (omega (arith, front)) ∙ get_or-take from xs i false a
      ∙ sym (or-false (at xs i) false refl)

  above : from + n ≤ i → at (take from xs ++ (replicate n true ++ drop (from + n) xs)) i ≡ (at xs i || false)
  above b =
      let e : from + n + (i - from - n) ≡ i = omega arith in
      get_or-append_right (take from xs) (replicate n true ++ drop (from + n) xs) from i false front (omega arith)
      ∙ get_or-append_right (replicate n true) (drop (from + n) xs) n (i - from) false (length-replicate n true) (omega arith) ∙ get_or-drop (from + n) xs (i - from - n) false
      ∙ ap (at xs) e ∙ sym (or-false (at xs i) false refl)

pub bits-run : (old new : List ℕ) (len from n : ℕ) → from + n ≤ len → ((i : ℕ) → bit_in new i ≡ (bit_in old i || lies from (from + n) i))
    → first_bits new len ≡ with_run (first_bits old len) from n
bits-run old new len from n h places =
    let within : from + n ≤ length (first_bits old len) = omega (arith, length-bits old len) in
    bits-same new len (with_run (first_bits old len) from n) (length-run (first_bits old len) from n within ∙ length-bits old len)
    (λ i l. places i ∙ ap (λ t. t || lies from (from + n) i) (sym (bits-at old len i l)) ∙ sym (at-run (first_bits old len) from n i within))

-- ---- fill

-- from the first cleared word on no place is set
clear-after : (old mid : List ℕ) (before kept used : ℕ) → IsClearFrom old before → before ≤ 64 * used → ((i : ℕ) → bit_in mid i ≡ cond (lies (64 * kept) (64 * used) i) false (bit_in old i))
    → IsClearFrom mid (64 * kept)
clear-after old mid before kept used clear far places i h =
    places i ∙ by-run (64 * kept) (64 * used) i (λ t. cond t false (bit_in old i) ≡ false) (λ a b. refl) (λ a. absurd (omega arith)) (λ a. clear i (omega arith))

pub row-filled : (old mid new : List ℕ) (before len kept used : ℕ) (b : Bool) → IsRow old before → before ≤ 64 * used → 64 * kept ≤ cond b len 0 → len ≤ 64 * length old
    → ((i : ℕ) → bit_in mid i ≡ cond (lies (64 * kept) (64 * used) i) false (bit_in old i)) → length mid ≡ length old → length new ≡ length mid
    → ((i : ℕ) → bit_in new i ≡ (bit_in mid i || (b && lies 0 len i))) → IsRow new len
row-filled old mid new before len kept used b row far few room cleared a e places = row-kept old new before len row (e ∙ a) room clear where
  low : (b : Bool) → 64 * kept ≤ cond b len 0 → 64 * kept ≤ len
  low true h = h
  low false h = omega arith

  clear : (i : ℕ) → len ≤ i → bit_in new i ≡ false
  clear i h =
      places i ∙ or-false (bit_in mid i) _ (and-false b _ (lies-above 0 len i h))
      ∙ clear-after old mid before kept used row.clear far cleared i (let l = low b few in omega arith)

pub bits-filled : (old mid new : List ℕ) (before len kept used : ℕ) (b : Bool) → IsClearFrom old before → before ≤ 64 * used → 64 * kept ≤ cond b len 0
    → ((i : ℕ) → bit_in mid i ≡ cond (lies (64 * kept) (64 * used) i) false (bit_in old i))
    → ((i : ℕ) → bit_in new i ≡ (bit_in mid i || (b && lies 0 len i))) → first_bits new len ≡ replicate len b
bits-filled old mid new before len kept used b clear far few cleared places =
    bits-same new len (replicate len b) (length-replicate len b)
    (λ i h. places i ∙ go b few i (lies-in 0 len i (omega arith) h) ∙ sym (get_or-replicate len i b false h)) where
      go : (b : Bool) → 64 * kept ≤ cond b len 0 → (i : ℕ) → lies 0 len i ≡ true → (bit_in mid i || (b && lies 0 len i)) ≡ b
      go true few i h = or-true (bit_in mid i) (lies 0 len i) h
      go false few i h = or-false (bit_in mid i) false refl ∙ clear-after old mid before kept used clear far cleared i (omega arith)

-- ---- two rows, place by place

length-pairs : (f : Bool × Bool → Bool) (xs ys : List Bool) → length xs ≡ length ys → length (map f (zip xs ys)) ≡ length xs
length-pairs f xs ys e = length-map (zip xs ys) f ∙ length-zip xs ys ∙ omega arith

at-pairs : (f : Bool × Bool → Bool) (xs ys : List Bool) (i : ℕ) → i < length xs → i < length ys → at (map f (zip xs ys)) i ≡ f (at xs i, at ys i)
at-pairs f [] ys i h k = absurd (omega arith)
at-pairs f (x ∷ xs) [] i h k = absurd (omega arith)
at-pairs f (x ∷ xs) (y ∷ ys) zero h k = refl
at-pairs f (x ∷ xs) (y ∷ ys) (suc i) h k = at-pairs f xs ys i (omega arith) (omega arith)

pub at-both : (xs ys : List Bool) (i : ℕ) → length xs ≡ length ys → i < length xs → at (both xs ys) i ≡ (at xs i && at ys i)
at-both xs ys i e h = at-pairs (λ p. p.0 && p.1) xs ys i h (omega arith)

pub at-either : (xs ys : List Bool) (i : ℕ) → length xs ≡ length ys → i < length xs → at (either xs ys) i ≡ (at xs i || at ys i)
at-either xs ys i e h = at-pairs (λ p. p.0 || p.1) xs ys i h (omega arith)

pub length-both : (xs ys : List Bool) → length xs ≡ length ys → length (both xs ys) ≡ length xs
length-both xs ys e = length-pairs (λ p. p.0 && p.1) xs ys e

pub length-either : (xs ys : List Bool) → length xs ≡ length ys → length (either xs ys) ≡ length xs
length-either xs ys e = length-pairs (λ p. p.0 || p.1) xs ys e

same-length : (old other : List ℕ) (len there : ℕ) → length (first_bits old len) ≡ length (first_bits other there) → len ≡ there
same-length old other len there e = sym (length-bits old len) ∙ e ∙ length-bits other there

pub bits-zipped : (test : Bool → Bool → Bool) (old other new : List ℕ) (n len there : ℕ) → length (first_bits old len) ≡ length (first_bits other there) → len ≤ 64 * n
    → ((i : ℕ) → bit_in new i ≡ cond (nat_lt i (64 * n)) (test (bit_in old i) (bit_in other i)) (bit_in old i))
    → first_bits new len ≡ map (λ p. test p.0 p.1) (zip (first_bits old len) (first_bits other there))
bits-zipped test old other new n len there e far places =
    bits-same new len (map (λ p. test p.0 p.1) (zip (first_bits old len) (first_bits other there)))
    (length-pairs (λ p. test p.0 p.1) (first_bits old len) (first_bits other there) e ∙ length-bits old len)
    (λ i h. places i ∙ cond-true _ (test (bit_in old i) (bit_in other i)) (bit_in old i) (lt-ltb i (64 * n) (omega arith))
    ∙ two (sym (bits-at old len i h)) (sym (bits-at other there i (let s = same-length old other len there e in omega arith)))
    ∙ sym (at-pairs (λ p. test p.0 p.1) (first_bits old len) (first_bits other there) i (omega (arith, length-bits old len)) (omega (arith, e, length-bits old len)))) where
      two : {p q r t : Bool} → p ≡ q → r ≡ t → test p r ≡ test q t
      two x y = cc

pub row-zipped : (test : Bool → Bool → Bool) (old other new : List ℕ) (n len there : ℕ) → test false false ≡ false → IsRow old len → IsRow other there
    → length (first_bits old len) ≡ length (first_bits other there) → length new ≡ length old
    → ((i : ℕ) → bit_in new i ≡ cond (nat_lt i (64 * n)) (test (bit_in old i) (bit_in other i)) (bit_in old i)) → IsRow new len
row-zipped test old other new n len there none row two e long places = row-kept old new len len row long row.within clear where
  chosen : (t p q : Bool) → p ≡ false → q ≡ false → cond t (test p q) p ≡ false
  chosen true p q a b = both p q a b where
    both : (p q : Bool) → p ≡ false → q ≡ false → test p q ≡ false
    both p q a b = ap (λ x. test x q) a ∙ ap (test false) b ∙ none
  chosen false p q a b = a

  clear : (i : ℕ) → len ≤ i → bit_in new i ≡ false
  clear i h = places i ∙ chosen (nat_lt i (64 * n)) (bit_in old i) (bit_in other i) (row.clear i h) (two.clear i (let s = same-length old other len there e in omega arith))

pub row-and : (old other new : List ℕ) (n len there : ℕ) → IsRow old len → IsRow other there → length (first_bits old len) ≡ length (first_bits other there) → length new ≡ length old
    → ((i : ℕ) → bit_in new i ≡ cond (nat_lt i (64 * n)) (bit_in old i && bit_in other i) (bit_in old i)) → IsRow new len
row-and old other new n len there row two e long places = row-zipped (λ p q. p && q) old other new n len there refl row two e long places

pub row-or : (old other new : List ℕ) (n len there : ℕ) → IsRow old len → IsRow other there → length (first_bits old len) ≡ length (first_bits other there) → length new ≡ length old
    → ((i : ℕ) → bit_in new i ≡ cond (nat_lt i (64 * n)) (bit_in old i || bit_in other i) (bit_in old i)) → IsRow new len
row-or old other new n len there row two e long places = row-zipped (λ p q. p || q) old other new n len there refl row two e long places

-- ---- the next set place

pub next-in-row : (words : List ℕ) (len from n r : ℕ) → IsRow words len → IsNextPlace words from (64 * n) r → IsNextSet (first_bits words len) from r
next-in-row words len from n r row next = go (cases_lt r len) where
  go : (r < len) ⊎ (len ≤ r) → IsNextSet (first_bits words len) from r
  go (inl h) = record {
    from_on = next.from_on;
    within = omega (arith, length-bits words len);
    set = bits-read words len row r ∙ next.set;
    least = λ i a b. bits-read words len row i ∙ next.least i a b;
  }
  go (inr h) = let clear : bit_in words r ≡ false = row.clear r h in let set : bit_in words r ≡ true = next.set in absurd (cc)

pub none-in-row : (words : List ℕ) (len from n : ℕ) → IsRow words len → len ≤ 64 * n → ((i : ℕ) → from ≤ i → i < 64 * n → bit_in words i ≡ false) → (i : ℕ) → from ≤ i → at (first_bits words len) i ≡ false
none-in-row words len from n row far none i h = bits-read words len row i ∙ go (cases_lt i len) where
  go : (i < len) ⊎ (len ≤ i) → bit_in words i ≡ false
  go (inl l) = none i h (omega arith)
  go (inr l) = row.clear i l

-- ---- closing up

-- past the used words nothing is set, so every later place is what was n further on
closed-place : (old new : List ℕ) (len from n used i : ℕ) → IsClearFrom old len → len ≤ 64 * used → ((i : ℕ) → bit_in new i ≡ cond (lies from (64 * used) i) (bit_in old (i + n)) (bit_in old i))
    → from ≤ i → bit_in new i ≡ bit_in old (i + n)
closed-place old new len from n used i clear far places h =
    places i ∙ by-run from (64 * used) i (λ t. cond t (bit_in old (i + n)) (bit_in old i) ≡ bit_in old (i + n)) (λ a b. refl) (λ a. absurd (omega arith))
    (λ a. clear i (omega arith) ∙ sym (clear (i + n) (omega arith)))

pub row-closed : (old new : List ℕ) (len from n used : ℕ) → IsRow old len → from + n ≤ len → len ≤ 64 * used → length new ≡ length old
    → ((i : ℕ) → bit_in new i ≡ cond (lies from (64 * used) i) (bit_in old (i + n)) (bit_in old i)) → IsRow new (len - n)
row-closed old new len from n used row within far long places =
    row-kept old new len (len - n) row long (let w = row.within in omega arith)
    (λ i h. closed-place old new len from n used i row.clear far places (omega arith) ∙ row.clear (i + n) (omega arith))

pub bits-closed : (old new : List ℕ) (len from n used : ℕ) → IsClearFrom old len → from + n ≤ len → len ≤ 64 * used
    → ((i : ℕ) → bit_in new i ≡ cond (lies from (64 * used) i) (bit_in old (i + n)) (bit_in old i))
    → first_bits new (len - n) ≡ without_run (first_bits old len) from n
bits-closed old new len from n used clear within far places =
    bits-same new (len - n) (without_run (first_bits old len) from n) long (λ i h. go i h (cases_lt i from)) where
      front : length (take from (first_bits old len)) ≡ from
      front = omega (arith, length-take from (first_bits old len), length-bits old len)

      long : length (take from (first_bits old len) ++ drop (from + n) (first_bits old len)) ≡ len - n
      long = simp (length-append, length-take, length-drop, length-bits) (omega arith)

      go : (i : ℕ) → i < len - n → (i < from) ⊎ (from ≤ i) → bit_in new i ≡ at (take from (first_bits old len) ++ drop (from + n) (first_bits old len)) i
      go i h (inl l) =
          places i ∙ cond-false _ (bit_in old (i + n)) (bit_in old i) (lies-below from (64 * used) i l) ∙ sym (bits-at old len i (omega arith)) ∙ sym (get_or-take from (first_bits old len) i false l)
          ∙ sym (get_or_append_left (take from (first_bits old len)) (drop (from + n) (first_bits old len)) false i (omega (arith, front)))
      go i h (inr l) =
          let e : i + n ≡ from + n + (i - from) = omega arith in
          closed-place old new len from n used i clear far places l ∙ sym (bits-at old len (i + n) (omega arith)) ∙ ap (at (first_bits old len)) e
          ∙ sym (get_or-drop (from + n) (first_bits old len) (i - from) false)
          ∙ sym (get_or-append_right (take from (first_bits old len)) (drop (from + n) (first_bits old len)) from i false front l)

-- ---- clearing

pub row-cleared : (old new : List ℕ) (len from to : ℕ) → IsRow old len → length new ≡ length old → ((i : ℕ) → bit_in new i ≡ cond (lies from to i) false (bit_in old i)) → IsRow new len
row-cleared old new len from to row long places = row-kept old new len len row long row.within (λ i h. places i ∙ chosen (lies from to i) (bit_in old i) (row.clear i h)) where
  chosen : (t p : Bool) → p ≡ false → cond t false p ≡ false
  chosen true p e = refl
  chosen false p e = e

pub bits-cleared : (old new : List ℕ) (len from to : ℕ) → IsRow old len → IsRow new len → ((i : ℕ) → bit_in new i ≡ cond (lies from to i) false (bit_in old i))
    → IsCleared from to (first_bits old len) (first_bits new len)
bits-cleared old new len from to row after places = record {
  long = length-bits new len ∙ sym (length-bits old len);
  places = λ i. bits-read new len after i ∙ places i ∙ chosen (lies from to i) (bit_in old i) ∙ ap (λ t. t && not (lies from to i)) (sym (bits-read old len row i));
} where
  chosen : (t p : Bool) → cond t false p ≡ (p && not t)
  chosen true true = refl
  chosen true false = refl
  chosen false true = refl
  chosen false false = refl

-- ---- one word

pub row-put : (old new : List ℕ) (len i word : ℕ) → IsRow old len → length new ≡ length old → ((r : ℕ) → bit_in new r ≡ cond (lies (64 * i) (64 * (i + 1)) r) (bit word (r - 64 * i)) (bit_in old r))
    → ((k : ℕ) → k < 64 → len ≤ 64 * i + k → bit word k ≡ false) → IsRow new len
row-put old new len i word row long places within = row-kept old new len len row long row.within
    (λ r h. by-run (64 * i) (64 * (i + 1)) r (λ t. (bit_in new r ≡ cond t (bit word (r - 64 * i)) (bit_in old r)) → bit_in new r ≡ false)
    (λ a b e. e ∙ within (r - 64 * i) (omega arith) (omega arith)) (λ a e. e ∙ row.clear r h) (λ a e. e ∙ row.clear r h) (places r))

pub bits-put : (old new : List ℕ) (len i word : ℕ) → IsRow old len → IsRow new len → ((r : ℕ) → bit_in new r ≡ cond (lies (64 * i) (64 * (i + 1)) r) (bit word (r - 64 * i)) (bit_in old r))
    → IsWordPut i word (first_bits old len) (first_bits new len)
bits-put old new len i word row after places = record {
  long = length-bits new len ∙ sym (length-bits old len);
  here = λ k h.
      let e : 64 * i + k - 64 * i ≡ k = omega arith in
      bits-read new len after (64 * i + k) ∙ places (64 * i + k)
      ∙ cond-true _ (bit word (64 * i + k - 64 * i)) (bit_in old (64 * i + k)) (lies-in (64 * i) (64 * (i + 1)) (64 * i + k) (omega arith) (omega arith)) ∙ ap (bit word) e;
  others = λ r differs. bits-read new len after r ∙ places r ∙ outside r differs (cases_lt r (64 * i)) ∙ sym (bits-read old len row r);
} where
  outside : (r : ℕ) → (r / 64 ≡ i → ⊥) → (r < 64 * i) ⊎ (64 * i ≤ r) → cond (lies (64 * i) (64 * (i + 1)) r) (bit word (r - 64 * i)) (bit_in old r) ≡ bit_in old r
  outside r differs (inl l) = cond-false _ (bit word (r - 64 * i)) (bit_in old r) (lies-below (64 * i) (64 * (i + 1)) r l)
  outside r differs (inr l) = cond-false _ (bit word (r - 64 * i)) (bit_in old r) (lies-above (64 * i) (64 * (i + 1)) r (above differs)) where
    above : (r / 64 ≡ i → ⊥) → 64 * (i + 1) ≤ r
    above d = elim (cases_lt r (64 * (i + 1))) [
      | inl m ↦ absurd (d (omega arith))
      | inr m ↦ m
    ]

-- ---- the words as a slice

-- a place is a bit of its word
pub place-of-word : (words : List ℕ) (bits : List Bool) (i : ℕ) → IsSpelling words bits → at bits i ≡ bit (get_or words (i / 64) 0) (i % 64)
place-of-word words bits i spelling =
    let e : 64 * (i / 64) + i % 64 ≡ i = omega arith in
    ap (at bits) (sym e) ∙ sym (spelling.same (i / 64) (i % 64) (omega arith))

pub ruleset grown = (grown-place)

pub ruleset reads = (length-bits, bits-read, place-is)
