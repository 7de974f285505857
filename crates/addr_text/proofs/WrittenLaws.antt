-- The text that is written of a value, an interval or a time means it.
use Rattle.std.proofs.Common.{◌≡◌, ℕ, zero, suc, ◌+◌, ◌-◌, ◌*◌, ◌/◌, ◌%◌, ◌^◌, ◌<◌, ◌≤◌, ◌==◌, nat_le, ◌&&◌, Bool, true, false, cond, List, [], ◌∷◌, ◌++◌, length, map, fold, flat_map, get_or, codes, decimal, unwrap_or, Option, Some, None, All, refl, sym, ap, ◌∙◌, subst, arith, inl, inr, lit≤, lit<, zero-add, append_assoc, lt-ltb, length-append, zero-mul}
use Rattle.std.proofs.Math.Nat.{pow-zero, pow-succ', one-le-pow, mod-eq_of_lt}
use Rattle.std.proofs.Math.Arith.{mod-mul}
use Rattle.std.proofs.lemmas.Bool.{eqb-true, eqb-false, leb-true, ltb-true, and_parts}
use Rattle.std.proofs.lemmas.List.{length-map}
use Rattle.std.proofs.lemmas.List.Elements.{All-nil, All-cons}
use Rattle.std.proofs.lemmas.Fmt.{decimal_is_IsNumeral, length-decimal-le}
use Rattle.std.proofs.lemmas.Str.{digit_value-digit_char}
use Rattle.std.specs.Char.{digit_char}
use Rattle.std.specs.Str.Parse.{AllDigits, digits_value, digits_value_after}
use Rattle.std.specs.Net.Grammar.{IsNumber}
use Rattle.std.proofs.NetLemmas.Texts.{IsDotted-ipv4_text, IsColonHex-hex_groups_text}
use Rattle.set_model.specs.Key.{is_value, is_good}
use Rattle.set_model.specs.Kind.{bits_of}
use Rattle.set_model.specs.declared.kind.Kind.{Kind}
use Rattle.set_model.specs.declared.kind.Kind.TheVariants.{Ipv4, Ipv6, Ether, Proto, Service, Mark}
use Rattle.set_model.specs.declared.kind.Interval.{Interval}
use Rattle.addr_text.specs.Numbers.{big_endian}
use Rattle.addr_text.specs.Protocols.{written_protocols, protocol_name}
use Rattle.addr_text.proofs.ProtocolLaws.{name_found}
use Rattle.addr_text.specs.Values.{IsOctet, IsValue}
use Rattle.addr_text.specs.Intervals.{block_of, IsPrefix, IsRange, IsInterval}
use Rattle.addr_text.specs.Times.{units, longest_time, IsCount, IsParts, IsTime}
use Rattle.addr_text.specs.Written.{places, hex_text, value_text, fixed_bits, is_whole_block, is_address, block_text, range_text, interval_text, unit_counts, count_text, time_text}

fold-places : (base value k n : ℕ) → 0 < base → fold (λ m digit. m * base + digit) value (places base k n) ≡ value * base ^ k + n % base ^ k
fold-places base value zero n some = rw pow-zero (omega arith)
fold-places base value (suc k) n some =
    let later = fold-places base (value * base + n / base ^ k % base) k n some in
    let positive : 0 < base ^ k = one-le-pow k base some in
    rw (pow-succ' base k, mod-mul n {m = base} {c = base ^ k} some positive) (later ∙ omega arith)

-- the digits of a number write it
pub big_endian-places : (base k n : ℕ) → 0 < base → n < base ^ k → big_endian base (places base k n) ≡ n
big_endian-places base k n some below = fold-places base 0 k n some ∙ omega (arith, mod-eq_of_lt below)

places-lt : (base k n : ℕ) → 0 < base → (i : ℕ) → get_or (places base k n) i 0 < base
places-lt base zero n some i = some
places-lt base (suc k) n some i =
    let later = places-lt base k n some in
    let first : n / base ^ k % base < base = omega arith in
    elim i as (λ j. get_or (places base (suc k) n) j 0 < base) [ zero ↦ first | suc j ↦ later j ]

length-places : (base k n : ℕ) → length (places base k n) ≡ k
length-places base zero n = refl
length-places base (suc k) n = ap suc (length-places base k n)

wide : (d : ℕ) → d < 16 → d < 36
wide d h = omega arith

hex_value : (value : ℕ) (ds : List ℕ) → ((i : ℕ) → get_or ds i 0 < 16) → digits_value_after 16 value (map digit_char ds) ≡ fold (λ m digit. m * 16 + digit) value ds
hex_value value [] small = refl
hex_value value (d ∷ ds) small =
    ap (λ v. digits_value_after 16 (value * 16 + v) (map digit_char ds)) (digit_value-digit_char d (wide d (small 0))) ∙ hex_value (value * 16 + d) ds (λ i. small (suc i))

hex_digits : (ds : List ℕ) → ((i : ℕ) → get_or ds i 0 < 16) → AllDigits 16 (map digit_char ds)
hex_digits [] small = tt
hex_digits (d ∷ ds) small = (rw (digit_value-digit_char d (wide d (small 0))) (small 0), hex_digits ds (λ i. small (suc i)))

hex_text_is : (len n : ℕ) → 0 < len → n < 16 ^ len → IsNumber 16 (hex_text len n) n
hex_text_is len n some below =
    let small = places-lt 16 len n (lit< tt) in
    let count : length (hex_text len n) ≡ len = length-map (places 16 len n) digit_char ∙ length-places 16 len n in
    ((omega (arith, count), hex_digits (places 16 len n) small), hex_value 0 (places 16 len n) small ∙ big_endian-places 16 len n (lit< tt) below)

octet_is : (o : ℕ) → o < 256 → IsOctet (hex_text 2 o) × (digits_value 16 (hex_text 2 o) ≡ o)
octet_is o below = let number = hex_text_is 2 o (lit< tt) below in ((number.0, lit≤ tt), number.1)

octets_are : (os : List ℕ) → ((i : ℕ) → get_or os i 0 < 256) → All IsOctet (map (hex_text 2) os)
octets_are [] small = All-nil IsOctet
octets_are (o ∷ os) small = All-cons IsOctet (hex_text 2 o) (map (hex_text 2) os) (octet_is o (small 0)).0 (octets_are os (λ i. small (suc i)))

octets_value : (os : List ℕ) → ((i : ℕ) → get_or os i 0 < 256) → map (digits_value 16) (map (hex_text 2) os) ≡ os
octets_value [] small = refl
octets_value (o ∷ os) small = λ i. (octet_is o (small 0)).1 i ∷ octets_value os (λ j. small (suc j)) i

value_below : (kind : Kind) (n : ℕ) → is_value kind n ≡ true → n < 2 ^ bits_of kind
value_below kind n h = ltb-true n (2 ^ bits_of kind) h

pub IsValue-value_text : (kind : Kind) (n : ℕ) → is_value kind n ≡ true → IsValue kind (value_text kind n) n
unfolding value_text
IsValue-value_text Ipv4 n h = record {
  octets = places 256 4 n;
  dotted = IsDotted-ipv4_text (places 256 4 n) refl (places-lt 256 4 n (lit< tt));
  value = sym (big_endian-places 256 4 n (lit< tt) (value_below Ipv4 n h));
}
IsValue-value_text Ipv6 n h = record {
  segments = places 65536 8 n;
  colon_hex = IsColonHex-hex_groups_text (places 65536 8 n) refl (places-lt 65536 8 n (lit< tt));
  value = sym (big_endian-places 65536 8 n (lit< tt) (value_below Ipv6 n h));
}
IsValue-value_text Ether n h =
    let small = places-lt 256 6 n (lit< tt) in
    record {
      groups = map (hex_text 2) (places 256 6 n);
      six = refl;
      each = octets_are (places 256 6 n) small;
      spelled = refl;
      value = sym (ap (big_endian 256) (octets_value (places 256 6 n) small) ∙ big_endian-places 256 6 n (lit< tt) (value_below Ether n h));
    }
IsValue-value_text Proto n h = go (protocol_name n) refl where
  go : (o : Option (List ℕ)) → protocol_name n ≡ o → IsValue Proto (unwrap_or o (decimal n)) n
  go None none = inl (let below = value_below Proto n h in omega arith, refl)
  go (Some text) found = inr (inl (name_found written_protocols text n found))
IsValue-value_text Service n h = (let below = value_below Service n h in omega arith, refl)
IsValue-value_text Mark n h = inr (record { digits = hex_text 8 n; spelled = refl; hex = (hex_text_is 8 n (lit< tt) (value_below Mark n h), lit≤ tt) })

-- the low end of a good interval is a value too
low_value : (kind : Kind) (part : Interval) → is_good kind part ≡ true → is_value kind part.low ≡ true
low_value kind part h =
    let (rises, fits) = and_parts (nat_le part.low part.high) (is_value kind part.high) h in
    let order = leb-true part.low part.high rises in
    let below = value_below kind part.high fits in
    lt-ltb part.low (2 ^ bits_of kind) (omega arith)

high_value : (kind : Kind) (part : Interval) → is_good kind part ≡ true → is_value kind part.high ≡ true
high_value kind part h = (and_parts (nat_le part.low part.high) (is_value kind part.high) h).1

block_is : (kind : Kind) (part : Interval) → is_good kind part ≡ true → is_whole_block kind part ≡ true → IsPrefix kind (block_text kind part) part
block_is kind part h block =
    let fixed = fixed_bits (bits_of kind) (part.high - part.low) in
    let whole = block_of (bits_of kind) fixed part.low in
    let (low, high) = and_parts (part.low == whole.low) (part.high == whole.high) block in
    record {
      front = value_text kind part.low;
      digits = decimal fixed;
      value = part.low;
      fixed = fixed;
      spelled = refl;
      front_value = IsValue-value_text kind part.low (low_value kind part h);
      length = (omega arith, refl);
      block = λ i. record { low = eqb-true part.low whole.low low i; high = eqb-true part.high whole.high high i };
    }

range_is : (kind : Kind) (part : Interval) → is_good kind part ≡ true → IsRange kind (range_text kind part) part
range_is kind part h = record {
  front = value_text kind part.low;
  behind = value_text kind part.high;
  spelled = refl;
  low = IsValue-value_text kind part.low (low_value kind part h);
  high = IsValue-value_text kind part.high (high_value kind part h);
  rises = leb-true part.low part.high (and_parts (nat_le part.low part.high) (is_value kind part.high) h).0;
}

pub IsInterval-interval_text : (kind : Kind) (part : Interval) → is_good kind part ≡ true → IsInterval kind (interval_text kind part) part
unfolding interval_text
IsInterval-interval_text kind part h = go (part.low == part.high) refl where
  wide : (b : Bool) → (is_address kind && is_whole_block kind part) ≡ b → IsInterval kind (cond b (block_text kind part) (range_text kind part)) part
  wide true test = inr (inl (block_is kind part h (and_parts (is_address kind) (is_whole_block kind part) test).1))
  wide false test = inr (inr (range_is kind part h))

  go : (b : Bool) → (part.low == part.high) ≡ b → IsInterval kind (cond b (value_text kind part.low) (cond (is_address kind && is_whole_block kind part) (block_text kind part) (range_text kind part))) part
  go true test = inl (record { value = IsValue-value_text kind part.low (low_value kind part h); same = eqb-true part.low part.high test })
  go false test = wide (is_address kind && is_whole_block kind part) refl

-- a count and its unit for each unit of a list
part_is : (c : ℕ) (unit : List ℕ × ℕ) (us : List (List ℕ × ℕ)) (rest : List ℕ) (later : ℕ) → c < 10 ^ 15 → IsParts us rest later → IsParts (unit ∷ us) (count_text (c, unit.0) ++ rest) (c * unit.1 + later)
part_is c unit us rest later below others = go (c == 0) refl where
  go : (b : Bool) → (c == 0) ≡ b → IsParts (unit ∷ us) (cond b [] (decimal c ++ unit.0) ++ rest) (c * unit.1 + later)
  go true test = inl (subst (IsParts us rest) (sym (rw (eqb-true c 0 test, zero-mul unit.1) (zero-add later))) others)
  go false test =
      let number = decimal_is_IsNumeral c (omega arith) in
      inr (decimal c, rest, c, later, append_assoc (decimal c) unit.0 rest, (number, length-decimal-le 15 c (lit< tt) below (omega arith)), others, refl)

-- the units of a time make the time
whole : (ms : ℕ) → ms / 86_400_000 * 86_400_000 + (ms / 3_600_000 % 24 * 3_600_000 + (ms / 60_000 % 60 * 60_000 + (ms / 1_000 % 60 * 1_000 + (ms % 1_000 * 1 + 0)))) ≡ ms
whole ms = omega arith

counts_are : (ms : ℕ) → ms ≤ longest_time → IsParts units (flat_map count_text (unit_counts ms)) ms
counts_are ms within =
    let t4 = count_text (ms % 1_000, codes "ms") ++ [] in
    let t3 = count_text (ms / 1_000 % 60, codes "s") ++ t4 in
    let t2 = count_text (ms / 60_000 % 60, codes "m") ++ t3 in
    let t1 = count_text (ms / 3_600_000 % 24, codes "h") ++ t2 in
    let m4 = ms % 1_000 * 1 + 0 in
    let m3 = ms / 1_000 % 60 * 1_000 + m4 in
    let m2 = ms / 60_000 % 60 * 60_000 + m3 in
    let m1 = ms / 3_600_000 % 24 * 3_600_000 + m2 in
    let u4 = (codes "ms", 1) ∷ [] in
    let u3 = (codes "s", 1_000) ∷ u4 in
    let u2 = (codes "m", 60_000) ∷ u3 in
    let u1 = (codes "h", 3_600_000) ∷ u2 in
    let last = part_is (ms % 1_000) (codes "ms", 1) [] [] 0 (omega arith) (refl, refl) in
    let seconds = part_is (ms / 1_000 % 60) (codes "s", 1_000) u4 t4 m4 (omega arith) last in
    let minutes = part_is (ms / 60_000 % 60) (codes "m", 60_000) u3 t3 m3 (omega arith) seconds in
    let hours = part_is (ms / 3_600_000 % 24) (codes "h", 3_600_000) u2 t2 m2 (omega arith) minutes in
    let days = part_is (ms / 86_400_000) (codes "d", 86_400_000) u1 t1 m1 (omega arith) hours in
    subst (IsParts units (flat_map count_text (unit_counts ms))) (whole ms) days

zero_is : IsTime (codes "0s") 0
zero_is = record { spelled = inr (lit< tt, inl (inl (inl (inr (codes "0", [], 0, 0, refl, zero_count, inl (refl, refl), refl))))); within = lit≤ tt } where
  zero_count : IsCount (codes "0") 0
  zero_count = (((lit< tt, (lit< tt, tt)), refl), lit≤ tt)

-- no part is no time
no_parts : (us : List (List ℕ × ℕ)) (ms : ℕ) → IsParts us [] ms → ms ≡ 0
no_parts [] ms h = h.1
no_parts (u ∷ us) ms (inl h) = no_parts us ms h
no_parts (u ∷ us) ms (inr (digits, rest, count, later, split, is, others, value)) = absurd (omega (arith, ap length split, length-append digits (u.0 ++ rest), is.0.0.0))

some_part : (text : List ℕ) (ms : ℕ) → IsParts units text ms → (ms == 0) ≡ false → 0 < length text
some_part [] ms h test = absurd (eqb-false ms 0 test (no_parts units ms h))
some_part (c ∷ text) ms h test = omega arith

pub IsTime-time_text : (ms : ℕ) → ms ≤ longest_time → IsTime (time_text ms) ms
unfolding time_text
IsTime-time_text ms within = go (ms == 0) refl where
  go : (b : Bool) → (ms == 0) ≡ b → IsTime (cond b (codes "0s") (flat_map count_text (unit_counts ms))) ms
  go true test = rw (eqb-true ms 0 test) zero_is
  go false test = record { spelled = inr (some_part (flat_map count_text (unit_counts ms)) ms (counts_are ms within) test, counts_are ms within); within = within }
