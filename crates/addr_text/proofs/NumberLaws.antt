-- The functions that compute numbers decide the relations between numbers and texts.
use Rattle.std.proofs.Common.{◌≡◌, ℕ, suc, ◌+◌, ◌*◌, ◌^◌, ◌<◌, ◌≤◌, ◌==◌, nat_lt, false, ◌&&◌, List, [], ◌∷◌, length, get_or, take, Some, decimal, refl, sym, ap, arith, inl, inr, lit≤, eq-eqb, ne_eqb, le-ltb, lt-ltb, append-nil, le_trans, add-one, add-zero, zero-add, lit<, fold}
use Rattle.std.proofs.Math.Seq.{take-length}
use Rattle.std.proofs.Math.Nat.{pow-le-pow_right, pow-succ', pow-zero, mul-le-mul_left}
use Rattle.std.proofs.lemmas.Bool.{and_left, and_right, and_from, both_ways, cases_lt, eqb-true, ltb-false}
use Rattle.std.proofs.lemmas.Fmt.{decimal_is_IsNumeral, decimal_digit, first_decimal, decimal-digits_value}
use Rattle.std.proofs.lemmas.Str.Parse.{numerals_by_value, tells_digits}
use Rattle.std.proofs.lemmas.Int.Digits.{digits_value-lt}
use Rattle.std.specs.Str.Parse.{digits_value}
use Rattle.std.specs.Net.Grammar.{IsNumber}
use Rattle.std.specs.Net.Reader.{read_number}
use Rattle.std.proofs.NetLemmas.Options.{cond_some, cond_none, and_then_some}
use Rattle.std.proofs.NetLemmas.Numbers.{read_number_some, read_number_sound}
use Rattle.addr_text.specs.Numbers.{big_endian, IsNumberUpTo, IsHexUpTo}
use Rattle.addr_text.specs.ValuesRead.{whole_number, number_of, hex_of}

pub whole_number_sound : (radix most : ℕ) (text : List ℕ) (n : ℕ) → radix ≤ 36 → whole_number radix most text ≡ Some n → IsNumber radix text n × (n ≤ most)
unfolding whole_number
whole_number_sound radix most text n high e =
    and_then_some _ (read_number radix most text) _ e λ r read kept.
    let (test, same) = cond_some _ _ _ kept in
    let (number, fits, len, stop) = read_number_sound radix most text r.0 r.1 high read in
    let all : take r.1 text ≡ text = rw (eqb-true _ _ test) (take-length text) in
    (rw (← same) (rw all at number), omega arith)

pub whole_number_complete : (radix most : ℕ) (text : List ℕ) (n : ℕ) → radix ≤ 36 → IsNumber radix text n → n ≤ most → whole_number radix most text ≡ Some n
unfolding whole_number
whole_number_complete radix most text n high number fits =
    let read = rw append-nil at (read_number_some radix most text [] number.0 (omega (arith, number.1)) high) in
    rw (read, eq-eqb (length text) (length text) refl, number.1)

-- a decimal number has one digit, or begins with another digit than 0
no_leading_zero : (n : ℕ) → n < 2 ^ 64 → (nat_lt 1 (length (decimal n)) && (get_or (decimal n) 0 0 == 48)) ≡ false
no_leading_zero n small =
    elim (cases_lt n 10) [
      | inl one ↦ and_left _ _ (le-ltb 1 (length (decimal n)) (omega (arith, ap length (decimal_digit n one))))
      | inr more ↦ and_right _ _ (ne_eqb (get_or (decimal n) 0 0) 48 (let first = first_decimal n (omega arith) small in omega (arith, first)))
    ]

pub number_of_complete : (most : ℕ) (text : List ℕ) (n : ℕ) → most < 2 ^ 64 → IsNumberUpTo most text n → number_of most text ≡ Some n
unfolding number_of
number_of_complete most text n small h =
    let fits : n < 2 ^ 64 = omega (arith, h.0) in
    let number = decimal_is_IsNumeral n fits in
    rw (h.1, no_leading_zero n fits) (whole_number_complete 10 most (decimal n) n (lit≤ tt) number h.0)

pub number_of_sound : (most : ℕ) (text : List ℕ) (n : ℕ) → most < 2 ^ 64 → number_of most text ≡ Some n → IsNumberUpTo most text n
unfolding number_of
number_of_sound most text n small e =
    let (test, read) = cond_none _ _ _ e in
    let (number, fits) = whole_number_sound 10 most text n (lit≤ tt) read in
    let alone : get_or text 0 0 ≡ 48 → length text ≡ 1 = λ zero_first.
    elim (cases_lt 1 (length text)) [
      | inl more ↦ absurd (both_ways _ test (and_from _ _ (lt-ltb _ _ more) (eq-eqb _ _ zero_first)))
      | inr one ↦ omega (arith, number.0.0)
    ] in
    let short : digits_value 10 text < 2 ^ 64 = omega (arith, number.1) in
    let spelled = decimal-digits_value (numerals_by_value _ tells_digits) text number.0.1 number.0.0 alone short in
    (fits, rw number.1 at (sym spelled))

pub hex_of_sound : (longest : ℕ) (text : List ℕ) (n : ℕ) → hex_of longest text ≡ Some n → IsHexUpTo longest text n
unfolding hex_of
hex_of_sound longest text n e =
    let (test, read) = cond_none _ _ _ e in
    let (number, fits) = whole_number_sound 16 0xffff_ffff text n (lit≤ tt) read in
    (number, omega (arith, ltb-false longest (length text) test))

pub hex_of_complete : (longest : ℕ) (text : List ℕ) (n : ℕ) → longest ≤ 8 → IsHexUpTo longest text n → hex_of longest text ≡ Some n
unfolding hex_of
hex_of_complete longest text n eight h =
    let below = digits_value-lt 16 text h.0.0.1 in
    let most : 16 ^ length text ≤ 16 ^ 8 = pow-le-pow_right (lit≤ tt) (le_trans h.1 eight) in
    rw (le-ltb longest (length text) h.1) (whole_number_complete 16 0xffff_ffff text n (lit≤ tt) h.0 (omega (arith, h.0.1)))

-- one more digit
pub more_digits : (base value digit k most : ℕ) → 0 < base → value < base ^ k → digit < base → k + 1 ≤ most → value * base + digit < base ^ most
more_digits base value digit k most some below small room =
    let scaled : base * (value + 1) ≤ base * base ^ k = mul-le-mul_left base (omega arith) in
    let power : base ^ (k + 1) ≤ base ^ most = pow-le-pow_right some room in
    let step : base ^ (k + 1) ≡ base * base ^ k = rw add-one (pow-succ' base k) in
    omega (arith, scaled, power, step)

-- digits after a number with k of them
more-lt : (base value k : ℕ) (digits : List ℕ) → 0 < base → value < base ^ k → ((i : ℕ) → get_or digits i 0 < base) → fold (λ n digit. n * base + digit) value digits < base ^ (k + length digits)
more-lt base value k [] some below small = rw add-zero below
more-lt base value k (d ∷ digits) some below small =
    let first : value * base + d < base ^ (k + 1) = more_digits base value d k (k + 1) some below (small 0) (omega arith) in
    let later = more-lt base (value * base + d) (k + 1) digits some first (λ i. small (suc i)) in
    let same : k + length (d ∷ digits) ≡ k + 1 + length digits = omega arith in
    rw same later

-- digits below the base write a number below its power
pub big_endian-lt : (base : ℕ) (digits : List ℕ) → 0 < base → ((k : ℕ) → get_or digits k 0 < base) → big_endian base digits < base ^ length digits
big_endian-lt base digits some small = rw zero-add at (more-lt base 0 0 digits some one small) where
  one : 0 < base ^ 0
  one = rw pow-zero (lit< tt)
