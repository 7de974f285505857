-- A value of a kind has no more than the kind's bits.
use Rattle.std.proofs.Common.{◌≡◌, ℕ, zero, suc, ◌+◌, ◌*◌, ◌-◌, ◌^◌, ◌<◌, ◌≤◌, Bool, true, List, [], ◌∷◌, ◌++◌, length, map, replicate, get_or, Option, Some, None, All, Result, ok_or, IfOk, refl, sym, ◌∙◌, subst, arith, inl, inr, lit<, lit≤, lt-ltb, nat_lt, length-append}
use Rattle.std.proofs.lemmas.List.{length-replicate, length-map}
use Rattle.std.proofs.Math.Nat.{pow-le-pow_right}
use Rattle.std.proofs.lemmas.Bool.{ltb-true}
use Rattle.std.proofs.lemmas.List.Elements.{All-head, All-tail}
use Rattle.std.proofs.lemmas.Int.Digits.{digits_value-lt}
use Rattle.std.specs.Str.Parse.{digits_value}
use Rattle.std.specs.Net.Addr.{segments_of}
use Rattle.std.specs.Net.Grammar.{IsDotted, IsGroup, IsGroupsAfter, IsColonHex}
use Rattle.std.proofs.NetLemmas.Texts.{AllSegments}
use Rattle.set_model.specs.Key.{is_value}
use Rattle.set_model.specs.Kind.{bits_of}
use Rattle.set_model.specs.declared.kind.Kind.{Kind}
use Rattle.set_model.specs.declared.kind.Kind.TheVariants.{Ipv4, Ipv6, Ether, Proto, Service, Mark}
use Rattle.addr_text.specs.Numbers.{IsHexUpTo}
use Rattle.addr_text.specs.Protocols.{written_protocols, other_protocols, IsProtocolName}
use Rattle.addr_text.specs.Values.{IsIpv4, IsIpv6, IsEther, IsOctet, IsValue}
use Rattle.addr_text.specs.ValuesRead.{value_of}
use Rattle.addr_text.proofs.Tables.{passes}
use Rattle.addr_text.proofs.NumberLaws.{big_endian-lt}
use Rattle.addr_text.proofs.ValueLaws.{value_of_sound}

ipv4_fits : (text : List ℕ) (n : ℕ) → IsIpv4 text n → n < 2 ^ 32
ipv4_fits text n h = let fit = h.dotted.fit in rw (h.value, h.dotted.value) (omega arith)

segments-cons : (s : ℕ) (segments : List ℕ) → s < 2 ^ 16 → AllSegments segments → AllSegments (s ∷ segments)
segments-cons s segments first others k = elim k as (λ j. get_or (s ∷ segments) j 0 < 2 ^ 16) [ zero ↦ first | suc j ↦ others j ]

segments-nil : AllSegments []
segments-nil k = lit< tt

segments-append : (xs ys : List ℕ) → AllSegments xs → AllSegments ys → AllSegments (xs ++ ys)
segments-append [] ys h k = k
segments-append (x ∷ xs) ys h k = segments-cons x (xs ++ ys) (h 0) (segments-append xs ys (λ j. h (suc j)) k)

segments-zeros : (n : ℕ) → AllSegments (replicate n 0)
segments-zeros zero = segments-nil
segments-zeros (suc n) = segments-cons 0 (replicate n 0) (lit< tt) (segments-zeros n)

group_fits : (group : List ℕ) (s : ℕ) → IsGroup group s → s < 2 ^ 16
group_fits group s h =
    let below = digits_value-lt 16 group h.0.0.1 in
    let most : 16 ^ length group ≤ 16 ^ 4 = pow-le-pow_right (lit≤ tt) h.1 in
    omega (arith, h.0.1)

dotted_fits : (text octets : List ℕ) → IsDotted text octets → AllSegments (segments_of octets)
dotted_fits text octets h =
    let fit = h.fit in
    rw h.value (segments-cons (h.a * 256 + h.b) ((h.c * 256 + h.d) ∷ []) (omega arith) (segments-cons (h.c * 256 + h.d) [] (omega arith) segments-nil))

groups_fit : (ipv4 : Bool) (lead text segments : List ℕ) → IsGroupsAfter ipv4 lead text segments → AllSegments segments
groups_fit ipv4 lead text [] h = segments-nil
groups_fit ipv4 lead text (s ∷ segments) (inl (group, rest, split, is, others)) = segments-cons s segments (group_fits group s is) (groups_fit ipv4 (58 ∷ []) rest segments others)
groups_fit ipv4 lead text (s ∷ segments) (inr (last, octets, dotted, split, is, value)) = subst AllSegments (sym value) (dotted_fits last octets is)

colon_hex_fits : (text segments : List ℕ) → IsColonHex text segments → AllSegments segments × (length segments ≡ 8)
colon_hex_fits text segments (inl (groups, eight)) = (groups_fit true [] text segments groups, eight)
colon_hex_fits text segments (inr h) =
    let zeros = replicate (8 - length h.head - length h.tail) 0 in
    let front = segments-append h.head zeros (groups_fit _ _ h.head_text h.head h.head_groups) (segments-zeros _) in
    let all = segments-append (h.head ++ zeros) h.tail front (groups_fit _ _ h.tail_text h.tail h.tail_groups) in
    let room = h.room in
    (rw h.value all, rw h.value (simp (length-append, length-replicate) (omega arith)))

ipv6_fits : (text : List ℕ) (n : ℕ) → IsIpv6 text n → n < 2 ^ 128
ipv6_fits text n h =
    let (all, eight) = colon_hex_fits text h.segments h.colon_hex in
    rw (h.value) (rw eight at (big_endian-lt 65536 h.segments (lit< tt) all))

octets_fit : (groups : List (List ℕ)) → All IsOctet groups → (k : ℕ) → get_or (map (digits_value 16) groups) k 0 < 256
octets_fit [] each k = lit< tt
octets_fit (group ∷ groups) each k =
    let first = All-head IsOctet group groups each in
    let below = digits_value-lt 16 group first.0.1 in
    let most : 16 ^ length group ≤ 16 ^ 2 = pow-le-pow_right (lit≤ tt) first.1 in
    let here : digits_value 16 group < 256 = omega arith in
    let later = octets_fit groups (All-tail IsOctet group groups each) in
    elim k as (λ j. get_or (map (digits_value 16) (group ∷ groups)) j 0 < 256) [ zero ↦ here | suc j ↦ later j ]

ether_fits : (text : List ℕ) (n : ℕ) → IsEther text n → n < 2 ^ 48
ether_fits text n h =
    let six : length (map (digits_value 16) h.groups) ≡ 6 = length-map h.groups (digits_value 16) ∙ h.six in
    rw (h.value) (rw six at (big_endian-lt 256 (map (digits_value 16) h.groups) (lit< tt) (octets_fit h.groups h.each)))

-- the entry's number has 8 bits
is_small : List ℕ × ℕ → Bool
is_small p = nat_lt p.1 256

name_fits : (text : List ℕ) (n : ℕ) → IsProtocolName text n → n < 2 ^ 8
unfolding is_small other_protocols
name_fits text n (inl at) = ltb-true n 256 (passes is_small written_protocols (text, n) refl at)
name_fits text n (inr at) = ltb-true n 256 (passes is_small other_protocols (text, n) refl at)

hex_fits : (text : List ℕ) (n : ℕ) → IsHexUpTo 8 text n → n < 2 ^ 32
hex_fits text n h =
    let below = digits_value-lt 16 text h.0.0.1 in
    let most : 16 ^ length text ≤ 16 ^ 8 = pow-le-pow_right (lit≤ tt) h.1 in
    omega (arith, h.0.1)

pub IsValue-fits : (kind : Kind) (text : List ℕ) (n : ℕ) → IsValue kind text n → n < 2 ^ bits_of kind
IsValue-fits Ipv4 text n h = ipv4_fits text n h
IsValue-fits Ipv6 text n h = ipv6_fits text n h
IsValue-fits Ether text n h = ether_fits text n h
IsValue-fits Proto text n (inl number) = omega (arith, number.0)
IsValue-fits Proto text n (inr name) = name_fits text n name
IsValue-fits Service text n h = omega (arith, h.0)
IsValue-fits Mark text n (inl number) = omega (arith, number.0)
IsValue-fits Mark text n (inr mark) = hex_fits mark.digits n mark.hex

pub is_value_read : (kind : Kind) (text : List ℕ) (n : ℕ) → value_of kind text ≡ Some n → is_value kind n ≡ true
is_value_read kind text n read = lt-ltb n (2 ^ bits_of kind) (IsValue-fits kind text n (value_of_sound kind text n read))

pub is_value_answered : {E : Type 0} (kind : Kind) (text : List ℕ) (r : Result ℕ E) (e : E) → r ≡ ok_or (value_of kind text) e → IfOk r (λ n. is_value kind n ≡ true)
is_value_answered {E} kind text r e is = rw is (go (value_of kind text) refl) where
  go : (o : Option ℕ) → value_of kind text ≡ o → IfOk (ok_or o e) (λ n. is_value kind n ≡ true)
  go None read = tt
  go (Some n) read = is_value_read kind text n read
