-- What ends the first value of an interval: no value has a `-` or a `/` in its text but names of protocols.
use Rattle.std.proofs.Common.{◌≡◌, ◌≢◌, ℕ, ◌<◌, ◌≤◌, ◌^◌, ◌⊎◌, Bool, true, false, not, ◌||◌, List, [], ◌∷◌, ◌++◌, length, decimal, codes, bytes_eq, All, refl, ap, ◌∙◌, subst, arith, inl, inr, lit≤, lit<, ne_eqb}
use Rattle.std.proofs.lemmas.Bool.{and_from, and_parts}
use Rattle.std.proofs.lemmas.List.Folds.{list_all-append}
use Rattle.std.proofs.lemmas.List.Elements.{All-head, All-tail}
use Rattle.std.proofs.lemmas.Fmt.{decimal_is_IsNumeral}
use Rattle.std.specs.Char.{digit_value}
use Rattle.std.specs.List.{list_all, list_any, join_with_byte}
use Rattle.std.specs.Str.Parse.{AllDigits}
use Rattle.std.specs.Net.Grammar.{IsDotted, IsGroupsAfter, IsColonHex}
use Rattle.set_model.specs.declared.kind.Kind.TheVariants.{Ipv4, Ipv6, Ether, Proto, Service, Mark}
use Rattle.addr_text.specs.Numbers.{IsNumberUpTo}
use Rattle.addr_text.specs.Protocols.{written_protocols, other_protocols, IsProtocolName}
use Rattle.addr_text.specs.Values.{IsOctet, IsValue}
use Rattle.addr_text.specs.IntervalsRead.{is_plain, plain_len, dashed_names}
use Rattle.addr_text.proofs.Tables.{passes}

-- a text with no `-` and no `/`
pub record Plain (text : List ℕ) : Type 0 where
  pub all : list_all is_plain text ≡ true

digit_plain : (c : ℕ) → digit_value c < 36 → is_plain c ≡ true
digit_plain c h = and_from _ _ (ap not (ne_eqb c 45 dash)) (ap not (ne_eqb c 47 slash)) where
  dash : c ≢ 45
  dash e = let at : digit_value 45 < 36 = subst (λ (n : ℕ). digit_value n < 36) e h in omega (arith, at)

  slash : c ≢ 47
  slash e = let at : digit_value 47 < 36 = subst (λ (n : ℕ). digit_value n < 36) e h in omega (arith, at)

plain-nil : Plain []
plain-nil = record { all = refl }

plain-cons : (c : ℕ) (text : List ℕ) → is_plain c ≡ true → Plain text → Plain (c ∷ text)
plain-cons c text first others = record { all = and_from _ _ first others.all }

plain-append : (xs ys : List ℕ) → Plain xs → Plain ys → Plain (xs ++ ys)
plain-append xs ys h k = record { all = list_all-append is_plain xs ys ∙ and_from _ _ h.all k.all }

digits_plain : (radix : ℕ) (text : List ℕ) → radix ≤ 36 → AllDigits radix text → Plain text
digits_plain radix [] high h = plain-nil
digits_plain radix (c ∷ text) high h = plain-cons c text (digit_plain c (let d = digit_value c in omega (arith, h.0))) (digits_plain radix text high h.1)

decimal_plain : (n : ℕ) → n < 2 ^ 64 → Plain (decimal n)
decimal_plain n small = digits_plain 10 (decimal n) (lit≤ tt) (decimal_is_IsNumeral n small).0.1

number_plain : (most : ℕ) (text : List ℕ) (n : ℕ) → most < 2 ^ 64 → IsNumberUpTo most text n → Plain text
number_plain most text n small h = rw h.1 (decimal_plain n (omega (arith, h.0)))

dotted_plain : (text octets : List ℕ) → IsDotted text octets → Plain text
dotted_plain text octets h =
    let fit = h.fit in
    let a = plain-append (decimal h.a) (codes ".") (decimal_plain h.a (omega arith)) dot in
    let b = plain-append _ (codes ".") (plain-append _ (decimal h.b) a (decimal_plain h.b (omega arith))) dot in
    let c = plain-append _ (codes ".") (plain-append _ (decimal h.c) b (decimal_plain h.c (omega arith))) dot in
    rw h.spelled (plain-append _ (decimal h.d) c (decimal_plain h.d (omega arith)))
  where
    dot : Plain (codes ".")
    dot = record { all = refl }

groups_plain : (ipv4 : Bool) (lead text segments : List ℕ) → Plain lead → IsGroupsAfter ipv4 lead text segments → Plain text
groups_plain ipv4 lead text [] first h = rw h plain-nil
groups_plain ipv4 lead text (s ∷ segments) first (inl (group, rest, split, is, others)) =
    let front = plain-append lead group first (digits_plain 16 group (lit≤ tt) is.0.0.1) in
    rw split (plain-append (lead ++ group) rest front (groups_plain ipv4 (58 ∷ []) rest segments (record { all = refl }) others))
groups_plain ipv4 lead text (s ∷ segments) first (inr (last, octets, dotted, split, is, value)) = rw split (plain-append lead last first (dotted_plain last octets is))

colon_hex_plain : (text segments : List ℕ) → IsColonHex text segments → Plain text
colon_hex_plain text segments (inl (groups, eight)) = groups_plain true [] text segments plain-nil groups
colon_hex_plain text segments (inr h) =
    let head = groups_plain _ [] h.head_text h.head plain-nil h.head_groups in
    let tail = groups_plain _ [] h.tail_text h.tail plain-nil h.tail_groups in
    rw h.spelled (plain-append _ h.tail_text (plain-append h.head_text (codes "::") head (record { all = refl })) tail)

joined_plain : (groups : List (List ℕ)) → All IsOctet groups → Plain (join_with_byte 58 groups)
joined_plain [] each = plain-nil
joined_plain (group ∷ []) each = digits_plain 16 group (lit≤ tt) (All-head IsOctet group [] each).0.1
joined_plain (group ∷ next ∷ groups) each =
    plain-append group _ (digits_plain 16 group (lit≤ tt) (All-head IsOctet group (next ∷ groups) each).0.1)
    (plain-cons 58 _ refl (joined_plain (next ∷ groups) (All-tail IsOctet group (next ∷ groups) each)))

-- one of the names with a `-`
abbrev pub is_dashed : List ℕ → Bool
is_dashed text = list_any (λ name. bytes_eq name text) dashed_names

-- the entry's name has no `-` and no `/`, or is one of those that have
is_plain_or_dashed : List ℕ × ℕ → Bool
is_plain_or_dashed p = list_all is_plain p.0 || is_dashed p.0

name_plain : (text : List ℕ) (n : ℕ) → IsProtocolName text n → Plain text ⊎ (is_dashed text ≡ true)
unfolding is_plain_or_dashed dashed_names other_protocols
name_plain text n h = go (list_all is_plain text) refl (tested h) where
  tested : IsProtocolName text n → is_plain_or_dashed (text, n) ≡ true
  tested (inl at) = passes is_plain_or_dashed written_protocols (text, n) refl at
  tested (inr at) = passes is_plain_or_dashed other_protocols (text, n) refl at

  go : (b : Bool) → list_all is_plain text ≡ b → is_plain_or_dashed (text, n) ≡ true → Plain text ⊎ (is_dashed text ≡ true)
  go true all test = inl (record { all = all })
  go false all test = inr (rw all at test)

pub protocol_plain : (text : List ℕ) (n : ℕ) → IsValue Proto text n → Plain text ⊎ (is_dashed text ≡ true)
protocol_plain text n (inl number) = inl (number_plain 255 text n (lit< tt) number)
protocol_plain text n (inr name) = name_plain text n name

pub ipv4_plain : (text : List ℕ) (n : ℕ) → IsValue Ipv4 text n → Plain text
ipv4_plain text n h = dotted_plain text h.octets h.dotted

pub ipv6_plain : (text : List ℕ) (n : ℕ) → IsValue Ipv6 text n → Plain text
ipv6_plain text n h = colon_hex_plain text h.segments h.colon_hex

pub ether_plain : (text : List ℕ) (n : ℕ) → IsValue Ether text n → Plain text
ether_plain text n h = rw h.spelled (joined_plain h.groups h.each)

pub service_plain : (text : List ℕ) (n : ℕ) → IsValue Service text n → Plain text
service_plain text n h = number_plain 65535 text n (lit< tt) h

pub mark_plain : (text : List ℕ) (n : ℕ) → IsValue Mark text n → Plain text
mark_plain text n (inl number) = number_plain 4294967295 text n (lit< tt) number
mark_plain text n (inr mark) = rw mark.spelled (plain-append (codes "0x") mark.digits (record { all = refl }) (digits_plain 16 mark.digits (lit≤ tt) mark.hex.0.0.1))

-- the text after a value: nothing, or a `-` or a `/`
unfoldable pub EndsValue : List ℕ → Type 0
EndsValue rest = plain_len rest ≡ 0

pub ends-nil : EndsValue []
unfolding EndsValue
ends-nil = refl

pub ends-slash : (rest : List ℕ) → EndsValue (47 ∷ rest)
unfolding EndsValue
ends-slash rest = refl

pub ends-dash : (rest : List ℕ) → EndsValue (45 ∷ rest)
unfolding EndsValue
ends-dash rest = refl

pub plain_len-append : (text rest : List ℕ) → list_all is_plain text ≡ true → EndsValue rest → plain_len (text ++ rest) ≡ length text
unfolding EndsValue
plain_len-append [] rest all stop = stop
plain_len-append (c ∷ text) rest all stop =
    let (first, others) = and_parts (is_plain c) (list_all is_plain text) all in
    let later = plain_len-append text rest others stop in
    rw first (omega arith)
