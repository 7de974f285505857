-- Bitmaps by their words: their bytes, whether some bit is set, and whether two are the same.
use Rattle.std.proofs.Common.{◌≡◌, refl, sym, ◌∙◌, ap, ℕ, zero, suc, ◌+◌, ◌*◌, ◌/◌, ◌%◌, ◌^◌, ◌<◌, ◌≤◌, Bool, true, false, ◌==◌, List, [], ◌∷◌, length, get_or, take, drop, zip, arith, Option, Some, None, MatchOption, is_some, get_or-take, get_or-drop, length-take}
use Rattle.std.specs.Int.{bit_at}
use Rattle.std.specs.List.{list_all}
use Rattle.std.proofs.Math.Nat.{pow-suc}
use Rattle.std.proofs.lemmas.Bool.{eq-eqb, eqb-true, and_parts, and_from}
use Rattle.std.proofs.lemmas.Bool.Decides.{nat_tests, same_from_decides}
use Rattle.std.proofs.lemmas.List.{ext_get_or}
use Rattle.std.proofs.lemmas.Nat.{div-add-mod'}
use Rattle.std.proofs.lemmas.Nat.Bits.{bit_at-lt, bit_at-suc, bit_at_lowest, bit_at_cat_low, same_from_bits_below}
use Rattle.bit_rows.specs.Row.{at, bit, IsNextSet, IsSpelling}
use Rattle.bit_rows.proofs.Bits.{bit-shr, bit-zero}
use Rattle.set_report.specs.DumpText.{bits_number, byte_of, same_bitmap, is_any_set}
use Rattle.set_report.proofs.DumpRuns.{same-Decides}

-- ---- numbers of bits

one_test : (m n : ℕ) → m < 2 → n < 2 → (m == 1) ≡ (n == 1) → m ≡ n
one_test zero zero h k e = refl
one_test zero (suc n) h k e = grind (arith, nat_tests)
one_test (suc m) zero h k e = grind (arith, nat_tests)
one_test (suc m) (suc n) h k e = omega arith

-- two words with the same first n bits, and no others, are the same
words-same : (n a b : ℕ) → a < 2 ^ n → b < 2 ^ n → ((k : ℕ) → k < n → bit a k ≡ bit b k) → a ≡ b
unfolding bit
words-same n a b small less same = same_from_bits_below n a b small less (λ k h. one_test (bit_at a k) (bit_at b k) (bit_at-lt a k) (bit_at-lt b k) (same k h))

number-below : (n : ℕ) (xs : List Bool) → length xs ≤ n → bits_number xs < 2 ^ n
number-below zero [] h = omega arith
number-below zero (x ∷ xs) h = absurd (omega arith)
number-below (suc n) [] h = omega (arith, pow-suc 2 n, number-below n [] (omega arith))
number-below (suc n) (true ∷ xs) h = omega (arith, pow-suc 2 n, number-below n xs (omega arith))
number-below (suc n) (false ∷ xs) h = omega (arith, pow-suc 2 n, number-below n xs (omega arith))

number-bit : (xs : List Bool) (k : ℕ) → bit (bits_number xs) k ≡ at xs k
unfolding bit
number-bit [] k = bit-zero k
number-bit (true ∷ xs) zero =
    let low : (1 + 2 * bits_number xs) % 2 ≡ 1 = omega arith in
    ap (λ m. m == 1) (bit_at_lowest (1 + 2 * bits_number xs) ∙ low)
number-bit (false ∷ xs) zero =
    let low : (0 + 2 * bits_number xs) % 2 ≡ 0 = omega arith in
    ap (λ m. m == 1) (bit_at_lowest (0 + 2 * bits_number xs) ∙ low)
number-bit (true ∷ xs) (suc k) =
    let half : (1 + 2 * bits_number xs) / 2 ≡ bits_number xs = omega arith in
    ap (λ m. m == 1) (bit_at-suc (1 + 2 * bits_number xs) k ∙ ap (λ m. bit_at m k) half) ∙ number-bit xs k
number-bit (false ∷ xs) (suc k) =
    let half : (0 + 2 * bits_number xs) / 2 ≡ bits_number xs = omega arith in
    ap (λ m. m == 1) (bit_at-suc (0 + 2 * bits_number xs) k ∙ ap (λ m. bit_at m k) half) ∙ number-bit xs k

bit-of-byte : (x k : ℕ) → k < 8 → bit (x % 256) k ≡ bit x k
unfolding bit
bit-of-byte x k h = ap (λ m. m == 1) (sym (bit_at_cat_low (x / 2 ^ 8) 8 (x % 2 ^ 8) k h) ∙ ap (λ n. bit_at n k) (div-add-mod' x (2 ^ 8)))

-- the eight bits from bit 8 * j on, by the word that has them
pub byte-is : (bits : List Bool) (j w : ℕ) → ((k : ℕ) → k < 64 → bit w k ≡ at bits (64 * (j / 8) + k)) → w / 2 ^ (j % 8 * 8) % 256 ≡ byte_of bits j
byte-is bits j w spelled = words-same 8 (w / 2 ^ (j % 8 * 8) % 256) (byte_of bits j) (omega arith) (number-below 8 (take 8 (drop (8 * j) bits)) (omega (arith, length-take 8 (drop (8 * j) bits)))) (λ k h.
    let within : j % 8 * 8 + k < 64 = omega arith in
    let place : 64 * (j / 8) + (j % 8 * 8 + k) ≡ 8 * j + k = omega arith in
    bit-of-byte (w / 2 ^ (j % 8 * 8)) k h
    ∙ bit-shr w (j % 8 * 8) k
    ∙ spelled (j % 8 * 8 + k) within
    ∙ ap (at bits) place
    ∙ sym (get_or-drop (8 * j) bits k false)
    ∙ sym (get_or-take 8 (drop (8 * j) bits) k false h)
    ∙ sym (number-bit (take 8 (drop (8 * j) bits)) k))

-- ---- some bit is set

none-set : (xs : List Bool) → ((i : ℕ) → at xs i ≡ false) → is_any_set xs ≡ false
none-set [] h = refl
none-set (true ∷ xs) h = let e : true ≡ false = h 0 in cc
none-set (false ∷ xs) h = none-set xs (λ i. h (suc i))

some-set : (xs : List Bool) (r : ℕ) → at xs r ≡ true → is_any_set xs ≡ true
some-set [] r h = let e : false ≡ true = h in cc
some-set (true ∷ xs) r h = refl
some-set (false ∷ xs) zero h = let e : false ≡ true = h in cc
some-set (false ∷ xs) (suc r) h = some-set xs r h

pub any-is : (xs : List Bool) (o : Option ℕ) → MatchOption o ((i : ℕ) → 0 ≤ i → at xs i ≡ false) (IsNextSet xs 0) → is_some o ≡ is_any_set xs
any-is xs None h = sym (none-set xs (λ i. h i (omega arith)))
any-is xs (Some r) h = sym (some-set xs r h.set)

-- ---- two bitmaps are the same

abbrev pub same_items : List ℕ → List ℕ → Bool
same_items ws vs = list_all (λ p. p.0 == p.1) (zip ws vs)

items-same : (ws vs : List ℕ) → same_items ws vs ≡ true → (w : ℕ) → w < length ws → w < length vs → get_or ws w 0 ≡ get_or vs w 0
items-same [] vs e w h k = absurd (omega arith)
items-same (x ∷ ws) [] e w h k = absurd (omega arith)
items-same (x ∷ ws) (y ∷ vs) e zero h k = eqb-true x y (and_parts (x == y) (same_items ws vs) e).0
items-same (x ∷ ws) (y ∷ vs) e (suc w) h k = items-same ws vs (and_parts (x == y) (same_items ws vs) e).1 w (omega arith) (omega arith)

same-to-items : (ws vs : List ℕ) → ((w : ℕ) → w < length ws → w < length vs → get_or ws w 0 ≡ get_or vs w 0) → same_items ws vs ≡ true
same-to-items [] vs h = refl
same-to-items (x ∷ ws) [] h = refl
same-to-items (x ∷ ws) (y ∷ vs) h = and_from (x == y) (same_items ws vs) (eq-eqb x y (h 0 (omega arith) (omega arith))) (same-to-items ws vs (λ w k l. h (suc w) (omega arith) (omega arith)))

module _ (ws vs : List ℕ) (xs ys : List Bool) (spelled : IsSpelling ws xs) (other : IsSpelling vs ys) (long : length xs ≡ length ys) where
  bits-same : same_items ws vs ≡ true → xs ≡ ys
  bits-same e = ext_get_or false xs ys long (λ i h.
      let place : 64 * (i / 64) + i % 64 ≡ i = omega arith in
      let here : i / 64 < length ws = omega (arith, spelled.long) in
      let there : i / 64 < length vs = omega (arith, other.long, long) in
      let low : i % 64 < 64 = omega arith in
      ap (at xs) (sym place)
      ∙ sym (spelled.same (i / 64) (i % 64) low)
      ∙ ap (λ n. bit n (i % 64)) (items-same ws vs e (i / 64) here there)
      ∙ other.same (i / 64) (i % 64) low
      ∙ ap (at ys) place)

  -- their words are the same as far as both have any
  pub same-by-words : ((w : ℕ) → get_or ws w 0 < 2 ^ 64) → ((w : ℕ) → get_or vs w 0 < 2 ^ 64) → same_items ws vs ≡ same_bitmap xs ys
  same-by-words small less = same_from_decides (same_items ws vs) (same_bitmap xs ys) (
    bits-same,
    λ e. same-to-items ws vs (λ w here there.
        words-same 64 (get_or ws w 0) (get_or vs w 0) (small w) (less w) (λ k h. spelled.same w k h ∙ ap (λ bits. at bits (64 * w + k)) e ∙ sym (other.same w k h))),
  )
      (same-Decides xs ys)
