-- The bounds that intervals are written as, which read back as the same intervals.
use Rattle.std.proofs.Common.{◌≡◌, ℕ, zero, suc, ◌+◌, ◌-◌, ◌*◌, ◌/◌, ◌^◌, ◌<◌, ◌≤◌, true, List, [], ◌∷◌, ◌++◌, length, get_or, take, drop, refl, ap, sym, subst, ◌∙◌, arith, append_assoc}
use Rattle.std.proofs.Math.Nat.{lt_of_le_of_lt}
use Rattle.std.proofs.lemmas.Bool.{ltb-true, leb-true, eqb-true, and_parts}
use Rattle.std.proofs.lemmas.List.{length-take-le, length-append, length-drop, drop_more, take_at, drop_at}
use Rattle.std.proofs.lemmas.Slice.{take-put_mid}
use borrow.Rule.Slice.PartMut.{put_mid}
use Rattle.byteorder.specs.Endian.{big_bytes, big_number}
use Rattle.byteorder.specs.Numbers.{big_from-cons, length-bytes_high_first, big_number-reads_back}
use Rattle.set_model.specs.declared.kind.Kind.{Kind}
use Rattle.set_model.specs.declared.kind.Kind.TheVariants.{Ipv4}
use Rattle.set_model.specs.declared.kind.Interval.{Interval}
use Rattle.set_model.specs.Key.{is_good, intervals_fit, parts_fit}
use Rattle.addr_text.specs.Numbers.{big_endian}
use Rattle.packed_values.specs.Packed.{width_of, packed_length, lows_of, highs_of, intervals_in, parts_in, IsBounds}
use Rattle.packed_values.proofs.BigEndian.{after}
use Rattle.packed_values.proofs.Fields.{power}

-- the number that the first bytes write
big_endian-take : (n : ℕ) (xs : List ℕ) → n ≤ length xs → big_endian 256 (take n xs) ≡ big_number n xs
big_endian-take zero xs h = refl
big_endian-take (suc n) [] h = absurd (omega (arith, h))
big_endian-take (suc n) (x ∷ xs) h =
    let within : n ≤ length xs = omega (arith, h) in
    let first : big_endian 256 (x ∷ take n xs) ≡ (0 * 256 + x) * 256 ^ length (take n xs) + big_endian 256 (take n xs) = after (0 * 256 + x) (take n xs) in
    let count : (0 * 256 + x) * 256 ^ length (take n xs) ≡ x * 256 ^ n = ap (λ m. (0 * 256 + x) * 256 ^ m) (length-take-le n xs within) ∙ ap (λ m. m * 256 ^ n) (omega arith) in
    let others = big_endian-take n xs within in
    let on = big_from-cons 0 n x xs in
    omega (arith, first, count, others, on)

written_back : (w x : ℕ) (rest : List ℕ) → x < 256 ^ w → big_endian 256 (take w (big_bytes w x ++ rest)) ≡ x
written_back w x rest h =
    big_endian-take w (big_bytes w x ++ rest) (omega (arith, length-append (big_bytes w x) rest, length-bytes_high_first w x)) ∙ big_number-reads_back w x rest h

-- ---- values that fit their bytes
good_fits : (kind : Kind) (part : Interval) → is_good kind part ≡ true → (part.low < 256 ^ width_of kind) × (part.high < 256 ^ width_of kind)
good_fits kind part h =
    let both = and_parts _ _ h in
    let rises : part.low ≤ part.high = leb-true _ _ both.0 in
    let high : part.high < 256 ^ width_of kind = subst (λ (n : ℕ). part.high < n) (sym (power kind)) (ltb-true _ _ both.1) in
    (lt_of_le_of_lt rises high, high)

good_at : (kinds : List Kind) (parts : List Interval) (i : ℕ) → length kinds ≡ length parts → intervals_fit kinds parts ≡ true → i < length kinds → is_good (get_or kinds i Ipv4) (get_or parts i (record { low = 0; high = 0 })) ≡ true
good_at [] parts i n h l = absurd (omega (arith, l))
good_at (kind ∷ kinds) [] i n h l = absurd (omega (arith, n))
good_at (kind ∷ kinds) (part ∷ parts) zero n h l = (and_parts _ _ h).0
good_at (kind ∷ kinds) (part ∷ parts) (suc i) n h l = good_at kinds parts i (omega (arith, n)) ((and_parts _ _ h).1) (omega (arith, l))

pub as_many : (kinds : List Kind) (parts : List Interval) → parts_fit kinds parts ≡ true → length kinds ≡ length parts
as_many kinds parts h = eqb-true _ _ ((and_parts _ _ h).0)

pub fits_at : (kinds : List Kind) (parts : List Interval) (i : ℕ) → parts_fit kinds parts ≡ true → i < length kinds
    → ((get_or parts i (record { low = 0; high = 0 })).low < 256 ^ width_of (get_or kinds i Ipv4)) × ((get_or parts i (record { low = 0; high = 0 })).high < 256 ^ width_of (get_or kinds i Ipv4))
fits_at kinds parts i h l = good_fits _ _ (good_at kinds parts i (as_many kinds parts h) ((and_parts _ _ h).1) l)

-- ---- one field more
pub still_long : (at w : ℕ) (bytes xs : List ℕ) → at + w ≤ length bytes → length xs ≡ w → length (put_mid at (at + w - at) bytes xs) ≡ length bytes
still_long at w bytes xs h n =
    let width : at + w - at ≡ w = omega arith in
    omega (
      arith,
      h,
      n,
      width,
      length-append (take at bytes) (xs ++ drop (at + w - at) (drop at bytes)),
      length-append xs (drop (at + w - at) (drop at bytes)),
      length-take-le at bytes (omega (arith, h)),
      length-drop (at + w - at) (drop at bytes),
      length-drop at bytes,
    )

-- the bytes of one more value, before those of the values that are left
pub one_more : (at w : ℕ) (bytes xs left before all : List ℕ) → at + w ≤ length bytes → length xs ≡ w → before ≡ xs ++ left → take at bytes ++ before ≡ all → take (at + w) (put_mid at (at + w - at) bytes xs) ++ left ≡ all
one_more at w bytes xs left before all h n is e =
    let front = take-put_mid at (at + w - at) bytes xs (at + w) (omega (arith, n)) (omega (arith, h)) in
    ap (λ (l : List ℕ). l ++ left) front ∙ (append_assoc (take at bytes) xs left ∙ (ap (λ (l : List ℕ). take at bytes ++ l) (sym is) ∙ e))

module _ (kinds : List Kind) (parts : List Interval) (i : ℕ) (l : i < length kinds) (n : length kinds ≡ length parts) where
  kinds_on : drop i kinds ≡ get_or kinds i Ipv4 ∷ drop (i + 1) kinds
  kinds_on = drop_more kinds i Ipv4 l

  parts_on : drop i parts ≡ get_or parts i (record { low = 0; high = 0 }) ∷ drop (i + 1) parts
  parts_on = drop_more parts i (record { low = 0; high = 0 }) (omega (arith, l, n))

  pub lows_on : lows_of (drop i kinds) (drop i parts) ≡ big_bytes (width_of (get_or kinds i Ipv4)) (get_or parts i (record { low = 0; high = 0 })).low ++ lows_of (drop (i + 1) kinds) (drop (i + 1) parts)
  lows_on = ap (λ (ks : List Kind). lows_of ks (drop i parts)) kinds_on ∙ ap (λ (ps : List Interval). lows_of (get_or kinds i Ipv4 ∷ drop (i + 1) kinds) ps) parts_on

  pub highs_on : highs_of (drop i kinds) (drop i parts) ≡ big_bytes (width_of (get_or kinds i Ipv4)) (get_or parts i (record { low = 0; high = 0 })).high ++ highs_of (drop (i + 1) kinds) (drop (i + 1) parts)
  highs_on = ap (λ (ks : List Kind). highs_of ks (drop i parts)) kinds_on ∙ ap (λ (ps : List Interval). highs_of (get_or kinds i Ipv4 ∷ drop (i + 1) kinds) ps) parts_on

pub length_on : (kinds : List Kind) (i : ℕ) → i < length kinds → packed_length (drop i kinds) ≡ width_of (get_or kinds i Ipv4) + packed_length (drop (i + 1) kinds)
length_on kinds i l = ap packed_length (drop_more kinds i Ipv4 l)

-- ---- the intervals read back
length-lows : (kinds : List Kind) (parts : List Interval) → length kinds ≡ length parts → length (lows_of kinds parts) ≡ packed_length kinds
length-lows [] parts n = refl
length-lows (kind ∷ kinds) [] n = absurd (omega (arith, n))
length-lows (kind ∷ kinds) (part ∷ parts) n =
    omega (arith, length-append (big_bytes (width_of kind) part.low) (lows_of kinds parts), length-bytes_high_first (width_of kind) part.low, length-lows kinds parts (omega (arith, n)))

length-highs : (kinds : List Kind) (parts : List Interval) → length kinds ≡ length parts → length (highs_of kinds parts) ≡ packed_length kinds
length-highs [] parts n = refl
length-highs (kind ∷ kinds) [] n = absurd (omega (arith, n))
length-highs (kind ∷ kinds) (part ∷ parts) n =
    omega (arith, length-append (big_bytes (width_of kind) part.high) (highs_of kinds parts), length-bytes_high_first (width_of kind) part.high, length-highs kinds parts (omega (arith, n)))

interval_back : (kind : Kind) (part : Interval) (lows highs : List ℕ) → is_good kind part ≡ true
    → record { low = big_endian 256 (take (width_of kind) (big_bytes (width_of kind) part.low ++ lows)); high = big_endian 256 (take (width_of kind) (big_bytes (width_of kind) part.high ++ highs)) } ≡ part
interval_back kind part lows highs h =
    let fits = good_fits kind part h in
    let low = written_back (width_of kind) part.low lows fits.0 in
    let high = written_back (width_of kind) part.high highs fits.1 in
    ap (λ (x : ℕ). record { low = x; high = big_endian 256 (take (width_of kind) (big_bytes (width_of kind) part.high ++ highs)) }) low ∙ ap (λ (x : ℕ). record { low = part.low; high = x }) high

intervals_back : (kinds : List Kind) (parts : List Interval) → length kinds ≡ length parts → intervals_fit kinds parts ≡ true → intervals_in kinds (lows_of kinds parts) (highs_of kinds parts) ≡ parts
intervals_back [] [] n h = refl
intervals_back [] (part ∷ parts) n h = absurd (omega (arith, n))
intervals_back (kind ∷ kinds) [] n h = absurd (omega (arith, n))
intervals_back (kind ∷ kinds) (part ∷ parts) n h =
    let w : ℕ = width_of kind in
    let both = and_parts _ _ h in
    let lows : List ℕ = lows_of kinds parts in let highs : List ℕ = highs_of kinds parts in
    let other_lows : drop w (big_bytes w part.low ++ lows) ≡ lows = drop_at (big_bytes w part.low) lows w (length-bytes_high_first w part.low) in
    let other_highs : drop w (big_bytes w part.high ++ highs) ≡ highs = drop_at (big_bytes w part.high) highs w (length-bytes_high_first w part.high) in
    let first = interval_back kind part lows highs both.0 in
    let others = intervals_back kinds parts (omega (arith, n)) both.1 in
    ap (λ (p : Interval). p ∷ intervals_in kinds (drop w (big_bytes w part.low ++ lows)) (drop w (big_bytes w part.high ++ highs))) first
    ∙ ap (λ (ls : List ℕ). part ∷ intervals_in kinds ls (drop w (big_bytes w part.high ++ highs))) other_lows
    ∙ ap (λ (hs : List ℕ). part ∷ intervals_in kinds lows hs) other_highs
    ∙ ap (λ (ps : List Interval). part ∷ ps) others

halved : (n : ℕ) → (n + n) / 2 ≡ n
halved n = omega arith

pub parts_back : (kinds : List Kind) (parts : List Interval) (bounds : List ℕ) → parts_fit kinds parts ≡ true → bounds ≡ lows_of kinds parts ++ highs_of kinds parts → IsBounds kinds bounds × (parts_in kinds bounds ≡ parts)
parts_back kinds parts bounds h e =
    let n = as_many kinds parts h in
    let lows : List ℕ = lows_of kinds parts in let highs : List ℕ = highs_of kinds parts in
    let low_count = length-lows kinds parts n in let high_count = length-highs kinds parts n in
    let count : length bounds ≡ length lows + length highs = ap length e ∙ length-append lows highs in
    let half : length bounds / 2 ≡ length lows = ap (λ (k : ℕ). k / 2) (omega (arith, count, low_count, high_count)) ∙ halved (length lows) in
    let front : take (length bounds / 2) bounds ≡ lows = ap (λ (k : ℕ). take k bounds) half ∙ (ap (take (length lows)) e ∙ take_at lows highs (length lows) refl) in
    let back : drop (length bounds / 2) bounds ≡ highs = ap (λ (k : ℕ). drop k bounds) half ∙ (ap (drop (length lows)) e ∙ drop_at lows highs (length lows) refl) in (
      omega (arith, count, low_count, high_count),
      ap (λ (ls : List ℕ). intervals_in kinds ls (drop (length bounds / 2) bounds)) front ∙ (ap (λ (hs : List ℕ). intervals_in kinds lows hs) back ∙ intervals_back kinds parts n ((and_parts _ _ h).1)),
    )
