-- One field more of a row of bytes.
use Rattle.std.proofs.Common.{◌≡◌, ℕ, suc, ◌+◌, ◌^◌, ◌<◌, ◌≤◌, Bool, true, ◌&&◌, nat_le, List, [], ◌∷◌, ◌++◌, length, get_or, take, drop, refl, ap, sym, subst, ◌∙◌, arith, lit<, inl, inr}
use Rattle.std.proofs.lemmas.List.{length-take-le, length-take, take_more_set, append_assoc, drop_more, length-drop, get_or-take, get_or-drop, get_or_past}
use Rattle.std.proofs.lemmas.Bool.{cases_lt, lt-ltb, eq-eqb}
use Rattle.std.proofs.Math.Bool.{and-true}
use Rattle.std.proofs.Math.ListN.{set}
use Rattle.set_model.specs.declared.kind.Kind.{Kind}
use Rattle.set_model.specs.declared.kind.Kind.TheVariants.{Ipv4, Ipv6, Ether, Proto, Service, Mark}
use Rattle.set_model.specs.declared.kind.Interval.{Interval}
use Rattle.set_model.specs.Kind.{bits_of}
use Rattle.set_model.specs.Key.{is_value, is_good, values_fit, intervals_fit, key_fits, parts_fit}
use Rattle.addr_text.specs.Numbers.{big_endian}
use Rattle.addr_text.proofs.NumberLaws.{big_endian-lt}
use Rattle.packed_values.specs.Packed.{width_of, packed_length, values_in, intervals_in, all_rise}

below-take : (bytes : List ℕ) (i k : ℕ) → ((j : ℕ) → get_or bytes j 0 < 256) → get_or (take i bytes) k 0 < 256
below-take bytes i k small =
    elim (cases_lt k i) [
      | inl within ↦ rw (get_or-take i bytes k 0 within) (small k)
      | inr past ↦ rw (get_or_past (take i bytes) k 0 (omega (arith, length-take i bytes))) (lit< tt)
    ]

pub one_value : (kinds : List Kind) (i : ℕ) (kind : Kind) (key rest all : List ℕ) (value : ℕ) → i < length kinds → i < length key → get_or kinds i kind ≡ kind → value ≡ big_endian 256 (take (width_of kind) rest)
    → take i key ++ values_in (drop i kinds) rest ≡ all → take (i + 1) (set key i value) ++ values_in (drop (i + 1) kinds) (drop (width_of kind) rest) ≡ all
one_value kinds i kind key rest all value inside within is at e =
    let left : List ℕ = values_in (drop (i + 1) kinds) (drop (width_of kind) rest) in
    let here : drop i kinds ≡ kind ∷ drop (i + 1) kinds = drop_more kinds i kind inside ∙ ap (λ (k : Kind). k ∷ drop (i + 1) kinds) is in
    let before : take i key ++ values_in (drop i kinds) rest ≡ take i key ++ big_endian 256 (take (width_of kind) rest) ∷ left = ap (λ (ks : List Kind). take i key ++ values_in ks rest) here in
    ap (λ (xs : List ℕ). xs ++ left) (take_more_set key i value within) ∙ (append_assoc (take i key) (value ∷ []) left ∙ (ap (λ (x : ℕ). take i key ++ x ∷ left) at ∙ (sym before ∙ e)))

pub one_interval : (kinds : List Kind) (i : ℕ) (kind : Kind) (done all : List Interval) (lows highs : List ℕ) (low high : ℕ) → i < length kinds → get_or kinds i kind ≡ kind → low ≡ big_endian 256 (take (width_of kind) lows) → high ≡ big_endian 256 (take (width_of kind) highs)
    → done ++ intervals_in (drop i kinds) lows highs ≡ all → (done ++ record { low = low; high = high } ∷ []) ++ intervals_in (drop (i + 1) kinds) (drop (width_of kind) lows) (drop (width_of kind) highs) ≡ all
one_interval kinds i kind done all lows highs low high inside is at_low at_high e =
    let left : List Interval = intervals_in (drop (i + 1) kinds) (drop (width_of kind) lows) (drop (width_of kind) highs) in
    let here : drop i kinds ≡ kind ∷ drop (i + 1) kinds = drop_more kinds i kind inside ∙ ap (λ (k : Kind). k ∷ drop (i + 1) kinds) is in
    let before : done ++ intervals_in (drop i kinds) lows highs ≡ done ++ record { low = big_endian 256 (take (width_of kind) lows); high = big_endian 256 (take (width_of kind) highs) } ∷ left =
    ap (λ (ks : List Kind). done ++ intervals_in ks lows highs) here in
    append_assoc done (record { low = low; high = high } ∷ []) left ∙ (ap (λ (x : ℕ). done ++ record { low = x; high = high } ∷ left) at_low ∙ (ap (λ (x : ℕ). done ++ record { low = big_endian 256 (take (width_of kind) lows); high = x } ∷ left) at_high ∙ (sym before ∙ e)))

-- the bytes that are left
pub fewer_bytes : (kinds : List Kind) (i : ℕ) (kind : Kind) (rest others : List ℕ) → i < length kinds → get_or kinds i kind ≡ kind → others ≡ drop (width_of kind) rest
    → length rest ≡ packed_length (drop i kinds) → length others ≡ packed_length (drop (i + 1) kinds)
fewer_bytes kinds i kind rest others inside is e h =
    let here : drop i kinds ≡ kind ∷ drop (i + 1) kinds = drop_more kinds i kind inside ∙ ap (λ (k : Kind). k ∷ drop (i + 1) kinds) is in
    omega (arith, h, ap packed_length here, ap length e, length-drop (width_of kind) rest)

-- so many bytes write a number of so many bits
pub power : (kind : Kind) → 256 ^ width_of kind ≡ 2 ^ bits_of kind
power Ipv4 = refl
power Ipv6 = refl
power Ether = refl
power Proto = refl
power Service = refl
power Mark = refl

AreBytes : List ℕ → Type 0
AreBytes bytes = (k : ℕ) → get_or bytes k 0 < 256

value_fits : (kind : Kind) (bytes : List ℕ) → width_of kind ≤ length bytes → AreBytes bytes → is_value kind (big_endian 256 (take (width_of kind) bytes)) ≡ true
unfolding AreBytes
value_fits kind bytes enough small =
    let w : ℕ = width_of kind in let value : ℕ = big_endian 256 (take w bytes) in
    let below : value < 256 ^ length (take w bytes) = big_endian-lt 256 (take w bytes) (lit< tt) (λ k. below-take bytes w k small) in
    lt-ltb value (2 ^ bits_of kind) (subst (λ (n : ℕ). value < n) (ap (λ (n : ℕ). 256 ^ n) (length-take-le w bytes enough) ∙ power kind) below)

rest_small : (bytes : List ℕ) (w : ℕ) → AreBytes bytes → AreBytes (drop w bytes)
unfolding AreBytes
rest_small bytes w small k = subst (λ (n : ℕ). n < 256) (sym (get_or-drop w bytes k 0)) (small (w + k))

values_fit_so : (kinds : List Kind) (bytes : List ℕ) → length bytes ≡ packed_length kinds → AreBytes bytes → values_fit kinds (values_in kinds bytes) ≡ true
values_fit_so [] bytes n small = refl
values_fit_so (kind ∷ kinds) bytes n small =
    let first = value_fits kind bytes (omega (arith, n)) small in
    let others = values_fit_so kinds (drop (width_of kind) bytes) (omega (arith, n, length-drop (width_of kind) bytes)) (rest_small bytes (width_of kind) small) in
    rw first others

length-values : (kinds : List Kind) (bytes : List ℕ) → length kinds ≡ length (values_in kinds bytes)
length-values [] bytes = refl
length-values (kind ∷ kinds) bytes = ap suc (length-values kinds (drop (width_of kind) bytes))

pub key_fits_so : (kinds : List Kind) (key bytes : List ℕ) → key ≡ values_in kinds bytes → length bytes ≡ packed_length kinds → ((k : ℕ) → get_or bytes k 0 < 256) → key_fits kinds key ≡ true
unfolding AreBytes
key_fits_so kinds key bytes e n small =
    let count = eq-eqb _ _ (length-values kinds bytes) in
    let fit = values_fit_so kinds bytes n small in
    subst (λ (vs : List ℕ). key_fits kinds vs ≡ true) (sym e) (rw count fit)

intervals_fit_so : (kinds : List Kind) (lows highs : List ℕ) → length highs ≡ packed_length kinds → AreBytes highs → intervals_fit kinds (intervals_in kinds lows highs) ≡ all_rise (intervals_in kinds lows highs)
intervals_fit_so [] lows highs n small = refl
intervals_fit_so (kind ∷ kinds) lows highs n small =
    let w : ℕ = width_of kind in let low : ℕ = big_endian 256 (take w lows) in let high : ℕ = big_endian 256 (take w highs) in
    let first : is_value kind high ≡ true = value_fits kind highs (omega (arith, n)) small in
    let others = intervals_fit_so kinds (drop w lows) (drop w highs) (omega (arith, n, length-drop w highs)) (rest_small highs w small) in
    let here : is_good kind (record { low = low; high = high }) ≡ nat_le low high = ap (λ (b : Bool). nat_le low high && b) first ∙ and-true (nat_le low high) in
    ap (λ (b : Bool). b && intervals_fit kinds (intervals_in kinds (drop w lows) (drop w highs))) here ∙ ap (λ (b : Bool). nat_le low high && b) others

length-intervals : (kinds : List Kind) (lows highs : List ℕ) → length kinds ≡ length (intervals_in kinds lows highs)
length-intervals [] lows highs = refl
length-intervals (kind ∷ kinds) lows highs = ap suc (length-intervals kinds (drop (width_of kind) lows) (drop (width_of kind) highs))

pub parts_fit_so : (kinds : List Kind) (parts : List Interval) (lows highs : List ℕ) → parts ≡ intervals_in kinds lows highs → length highs ≡ packed_length kinds → ((k : ℕ) → get_or highs k 0 < 256) → parts_fit kinds parts ≡ all_rise parts
unfolding AreBytes
parts_fit_so kinds parts lows highs e n small =
    let count = eq-eqb _ _ (length-intervals kinds lows highs) in
    let fit = intervals_fit_so kinds lows highs n small in
    subst (λ (ps : List Interval). parts_fit kinds ps ≡ all_rise ps) (sym e) (rw count fit)
