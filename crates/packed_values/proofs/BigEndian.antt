-- The number that a row of bytes writes, from the numbers of its parts.
use Rattle.std.proofs.Common.{◌≡◌, ℕ, suc, ◌+◌, ◌*◌, ◌^◌, List, [], ◌∷◌, ◌++◌, length, slice_index, take, drop, fold, ap, sym, ◌∙◌, arith, add-mul, mul_assoc}
use Rattle.std.proofs.Math.Nat.{pow-succ'}
use Rattle.std.proofs.lemmas.List.{length-drop, take-append-drop}
use Rattle.std.proofs.lemmas.List.Sums.{fold-append}
use Rattle.std.specs.Int.{w16, w32, from_be_bytes}
use Rattle.addr_text.specs.Numbers.{big_endian}

-- bytes after a number
pub after : (n : ℕ) (bytes : List ℕ) → fold (λ n digit. n * 256 + digit) n bytes ≡ n * 256 ^ length bytes + big_endian 256 bytes
after n [] = omega arith
after n (byte ∷ bytes) =
    let p : ℕ = 256 ^ length bytes in
    let more : fold (λ n digit. n * 256 + digit) (n * 256 + byte) bytes ≡ (n * 256 + byte) * p + big_endian 256 bytes = after (n * 256 + byte) bytes in
    let alone : big_endian 256 (byte ∷ bytes) ≡ (0 * 256 + byte) * p + big_endian 256 bytes = after (0 * 256 + byte) bytes in
    let first : (0 * 256 + byte) * p ≡ byte * p = ap (λ x. x * p) (omega arith) in
    let spread : (n * 256 + byte) * p ≡ n * 256 * p + byte * p = add-mul (n * 256) byte p in
    let higher : n * 256 ^ suc (length bytes) ≡ n * (256 * p) = ap (λ x. n * x) (pow-succ' 256 (length bytes)) in
    omega (arith, more, alone, first, spread, higher, mul_assoc n 256 p)

-- the first k bytes, and as many more
pub in_two : (bytes : List ℕ) (k more : ℕ) → length bytes ≡ k + more → big_endian 256 (take k bytes) * 256 ^ more + big_endian 256 (drop k bytes) ≡ big_endian 256 bytes
in_two bytes k more n =
    let front : ℕ = big_endian 256 (take k bytes) in
    let count : length (drop k bytes) ≡ more = omega (arith, n, length-drop k bytes) in
    let whole : big_endian 256 (take k bytes ++ drop k bytes) ≡ big_endian 256 bytes = ap (λ (xs : List ℕ). big_endian 256 xs) (take-append-drop k bytes) in
    let apart : big_endian 256 (take k bytes ++ drop k bytes) ≡ fold (λ n digit. n * 256 + digit) front (drop k bytes) = fold-append (λ n digit. n * 256 + digit) 0 (take k bytes) (drop k bytes) in
    ap (λ m. front * 256 ^ m + big_endian 256 (drop k bytes)) (sym count) ∙ (sym (after front (drop k bytes)) ∙ (sym apart ∙ whole))

pub two_bytes : (bytes : List ℕ) → length bytes ≡ 2 → from_be_bytes w16 (slice_index bytes 0 ∷ slice_index bytes 1 ∷ []) ≡ big_endian 256 bytes
two_bytes [] n = absurd (omega (arith, n))
two_bytes (a ∷ []) n = absurd (omega (arith, n))
two_bytes (a ∷ b ∷ []) n = omega arith
two_bytes (a ∷ b ∷ c ∷ rest) n = absurd (omega (arith, n))

pub four_bytes : (bytes : List ℕ) → length bytes ≡ 4 → from_be_bytes w32 (slice_index bytes 0 ∷ slice_index bytes 1 ∷ slice_index bytes 2 ∷ slice_index bytes 3 ∷ []) ≡ big_endian 256 bytes
four_bytes [] n = absurd (omega (arith, n))
four_bytes (a ∷ []) n = absurd (omega (arith, n))
four_bytes (a ∷ b ∷ []) n = absurd (omega (arith, n))
four_bytes (a ∷ b ∷ c ∷ []) n = absurd (omega (arith, n))
four_bytes (a ∷ b ∷ c ∷ d ∷ []) n = omega arith
four_bytes (a ∷ b ∷ c ∷ d ∷ e ∷ rest) n = absurd (omega (arith, n))

pub one_byte : (bytes : List ℕ) → length bytes ≡ 1 → slice_index bytes 0 ≡ big_endian 256 bytes
one_byte [] n = absurd (omega (arith, n))
one_byte (a ∷ []) n = omega arith
one_byte (a ∷ b ∷ rest) n = absurd (omega (arith, n))
