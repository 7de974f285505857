-- How many places are set, counted by the ones of words.
use Rattle.std.proofs.Common.{◌≡◌, refl, sym, ◌∙◌, ap, ℕ, zero, suc, ◌+◌, ◌*◌, ◌/◌, ◌%◌, ◌^◌, ◌<◌, ◌≤◌, ◌==◌, Bool, false, cond, List, [], ◌∷◌, ◌++◌, length, map, get_or, take, count_by, arith, count_ones, length-take, length-append, ◌-◌, ◌⊎◌, inl, inr, Some, slice_get}
use Rattle.std.specs.List.{range_with_len}
use Rattle.std.proofs.lemmas.Bool.{cases_lt}
use Rattle.std.proofs.lemmas.List.{get_or_append_left, get_or-append_right}
use Rattle.std.proofs.lemmas.Option.{slice_get_within, slice_get-get_or, get_or_from_slice_get}
use Rattle.std.proofs.lemmas.List.Sums.{sum_by-cons, sum_by_more, count_by-le-length}
use Rattle.std.proofs.lemmas.List.FromFn.{sum_by-map-range_with_len_more}
use Rattle.std.proofs.lemmas.Nat.{div-add-mod', pow_pos, mod_below, mod-mul-add, shr-shr, ones-le}
use Rattle.bit_rows.specs.Row.{bit}
use Rattle.bit_rows.specs.Words.{bit_in, first_bits}
use Rattle.bit_rows.specs.Ranked.{low_ones, rank}
use Rattle.bit_rows.proofs.Bits.{place-at, length-bits, bits-at}
use lib.Count.{ones_step}

-- ---- one word
halves : (k p x y : ℕ) → 0 < p → x ≡ k * (2 * p) + y → y < 2 * p → (y % 2 ≡ x % 2) × (y / 2 ≡ x / 2 % p)
halves k p x y some is low =
    let twice : k * (2 * p) ≡ 2 * (k * p) = omega arith in
    let half : x / 2 ≡ k * p + y / 2 = omega (arith, twice) in
    (omega (arith, twice), sym (ap (λ z. z % p) half ∙ mod-mul-add k p (y / 2) (omega arith)))

-- the n bits of a number from bit 0 on are its lowest, and the n - 1 of its half
ones-half : (x n : ℕ) → count_ones (x % 2 ^ suc n) ≡ x % 2 + count_ones (x / 2 % 2 ^ n)
ones-half x n =
    let y = x % 2 ^ suc n in
    let double : 2 ^ suc n ≡ 2 * 2 ^ n = omega arith in
    let some : 0 < 2 ^ n = pow_pos n in
    let parts : x ≡ x / 2 ^ suc n * (2 * 2 ^ n) + y = sym (div-add-mod' x (2 ^ suc n)) ∙ ap (λ z. x / 2 ^ suc n * z + y) double in
    let low : y < 2 * 2 ^ n = let below = mod_below x (2 ^ suc n) (omega (arith, double, some)) in omega (arith, below, double) in
    let both = halves (x / 2 ^ suc n) (2 ^ n) x y some parts low in
    ones_step y ∙ ap (λ z. z + count_ones (y / 2)) both.0 ∙ ap (λ z. x % 2 + count_ones z) both.1

one-bit : (x : ℕ) → x < 2 → x ≡ cond (x == 1) 1 0
one-bit zero h = refl
one-bit (suc zero) h = refl
one-bit (suc (suc x)) h = absurd (omega arith)

-- how many of the n bits from bit a on are set
ones-from : (word n a : ℕ) → count_ones (word / 2 ^ a % 2 ^ n) ≡ count_by (λ b. b) (map (bit word) (range_with_len a n))
unfolding bit
ones-from word zero a = let none = ones-le 0 (word / 2 ^ a % 1) (omega arith) in omega (arith, none)
ones-from word (suc n) a =
    let x = word / 2 ^ a in
    let next : x / 2 ≡ word / 2 ^ (a + 1) = shr-shr word a 1 in
    ones-half x n ∙ ap (λ z. z + count_ones (x / 2 % 2 ^ n)) (one-bit (x % 2) (omega arith)) ∙ ap (λ z. cond (x % 2 == 1) 1 0 + count_ones (z % 2 ^ n)) next
    ∙ ap (λ z. cond (bit word a) 1 0 + z) (ones-from word n (a + 1)) ∙ sym (sum_by-cons (λ b. cond b 1 0) (bit word a) (map (bit word) (range_with_len (a + 1) n)))

pub ones-low : (word n : ℕ) → count_ones (word % 2 ^ n) ≡ low_ones word n
unfolding low_ones
ones-low word n = let whole : word / 2 ^ 0 ≡ word = omega arith in ap (λ z. count_ones (z % 2 ^ n)) (sym whole) ∙ ones-from word n 0

-- ---- places
low_ones-more : (word n : ℕ) → low_ones word (n + 1) ≡ low_ones word n + cond (bit word n) 1 0
unfolding low_ones
low_ones-more word n = sum_by-map-range_with_len_more (λ b. cond b 1 0) (bit word) 0 n n (omega arith)

module _ (words : List ℕ) (len : ℕ) where
  rank-more : (i : ℕ) → i < len → rank (first_bits words len) (i + 1) ≡ rank (first_bits words len) i + cond (bit_in words i) 1 0
  rank-more i l = sum_by_more (λ b. cond b 1 0) (first_bits words len) i false (omega (arith, length-bits words len)) ∙ ap (λ b. rank (first_bits words len) i + cond b 1 0) (bits-at words len i l)

  -- The set places before a place are those of the words before, and those of its word below it.
  pub rank-in : (w n : ℕ) → n ≤ 64 → 64 * w + n ≤ len → rank (first_bits words len) (64 * w + n) ≡ rank (first_bits words len) (64 * w) + low_ones (get_or words w 0) n
  unfolding low_ones
  rank-in w zero h l = let same : 64 * w + 0 ≡ 64 * w = omega arith in ap (rank (first_bits words len)) same ∙ omega arith
  rank-in w (suc n) h l =
      let on : 64 * w + suc n ≡ 64 * w + n + 1 = omega arith in
      let more = rank-more (64 * w + n) (omega arith) in
      let here = ap {B = ℕ} (λ b. cond b 1 0) (place-at words w n (omega arith)) in
      let ones = low_ones-more (get_or words w 0) n in
      let so_far = rank-in w n (omega arith) (omega arith) in
      let one : suc n ≡ n + 1 = omega arith in
      omega (arith, ap (rank (first_bits words len)) on, more, here, ones, so_far, ap (low_ones (get_or words w 0)) one)

pub rank-few : (bits : List Bool) (i : ℕ) → rank bits i ≤ i
rank-few bits i = let most = count_by-le-length (λ b. b) (take i bits) in let long = length-take i bits in omega (arith, most, long)

-- the places before the words of a page, and those of its words before a place's word
pub rank-of_word : (words read : List ℕ) (len i page ones : ℕ) → read ≡ words → i ≤ len → page ≡ rank (first_bits words len) (512 * (i / 512))
    → ((n : ℕ) → 64 * (i / 64) ≤ n → rank (first_bits read n) (64 * (8 * (i / 512))) + ones ≡ rank (first_bits read n) (64 * (i / 64)))
    → page + ones ≡ rank (first_bits words len) (64 * (i / 64))
rank-of_word words read len i page ones same l before counted =
    let at = ap (λ z. rank (first_bits z len) (64 * (8 * (i / 512)))) same in
    let to = ap (λ z. rank (first_bits z len) (64 * (i / 64))) same in
    let start : 64 * (8 * (i / 512)) ≡ 512 * (i / 512) = omega arith in
    omega (arith, at, to, counted len (omega (arith, l)), before, ap (rank (first_bits words len)) start)

pub rank-at : (words : List ℕ) (len i word : ℕ) → i ≤ len → i / 64 < length words → word ≡ get_or words (i / 64) word → rank (first_bits words len) i ≡ rank (first_bits words len) (64 * (i / 64)) + low_ones word (i % 64)
rank-at words len i word l within is =
    let parts : 64 * (i / 64) + i % 64 ≡ i = omega arith in
    let same : get_or words (i / 64) 0 ≡ word = get_or_from_slice_get words (i / 64) word 0 (slice_get-get_or words (i / 64) word within ∙ ap Some (sym is)) in
    sym (ap (rank (first_bits words len)) parts) ∙ rank-in words len (i / 64) (i % 64) (omega arith) (omega (arith, l)) ∙ ap (λ z. rank (first_bits words len) (64 * (i / 64)) + low_ones z (i % 64)) same

-- ---- a list that grows
-- An item of a list with one more item at its end was in the list before, or is the new one.
pub pushed : {X : Type 0} (xs : List X) (y : X) (i : ℕ) (x : X) → slice_get (xs ++ y ∷ []) i ≡ Some x → (slice_get xs i ≡ Some x) ⊎ ((i ≡ length xs) × (x ≡ y))
pushed xs y i x h = go (cases_lt i (length xs)) where
  within : i < length (xs ++ y ∷ [])
  within = slice_get_within (xs ++ y ∷ []) i x h

  read : get_or (xs ++ y ∷ []) i x ≡ x
  read = get_or_from_slice_get (xs ++ y ∷ []) i x x h

  go : (i < length xs) ⊎ (length xs ≤ i) → (slice_get xs i ≡ Some x) ⊎ ((i ≡ length xs) × (x ≡ y))
  go (inl l) = inl (slice_get-get_or xs i x l ∙ ap Some (sym (get_or_append_left xs (y ∷ []) x i l) ∙ read))
  go (inr l) =
      let last : i - length xs ≡ 0 = omega (arith, within, length-append xs (y ∷ []), l) in
      inr (omega (arith, within, length-append xs (y ∷ []), l), sym read ∙ get_or-append_right xs (y ∷ []) (length xs) i x refl l ∙ ap (λ n. get_or (y ∷ []) n x) last)
