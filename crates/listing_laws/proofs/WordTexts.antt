-- Every text of an interval or a time is one word.
use Rattle.std.proofs.Common.{◌≡◌, ℕ, ◌<◌, ◌≤◌, ◌^◌, ◌⊎◌, Bool, true, List, [], ◌∷◌, ◌++◌, length, decimal, codes, All, refl, ◌∙◌, arith, inl, inr, lit≤, lit<, Some}
use Rattle.std.proofs.lemmas.Bool.{and_from}
use Rattle.std.proofs.lemmas.Bool.Decides.{nat_tests}
use Rattle.std.proofs.lemmas.Option.{none-some}
use Rattle.std.proofs.lemmas.List.Folds.{list_all-append}
use Rattle.std.proofs.lemmas.List.Elements.{All-head, All-tail}
use Rattle.std.proofs.lemmas.Fmt.{decimal_is_IsNumeral}
use Rattle.std.specs.Char.{digit_value}
use Rattle.std.specs.List.{list_all, join_with_byte}
use Rattle.std.specs.Str.Parse.{AllDigits}
use Rattle.std.specs.Net.Grammar.{IsDotted, IsGroupsAfter, IsColonHex}
use Rattle.std.specs.Net.Reader.{read_ipv4, read_octet, read_number, read_ipv6, read_segments, read_segment}
use Rattle.set_model.specs.Kind.{bits_of}
use Rattle.set_model.specs.declared.kind.Kind.{Kind}
use Rattle.set_model.specs.declared.kind.Kind.TheVariants.{Ipv4, Ipv6, Ether, Proto, Service, Mark}
use Rattle.set_model.specs.declared.kind.Interval.{Interval}
use Rattle.addr_text.specs.Numbers.{IsNumberUpTo}
use Rattle.addr_text.specs.Protocols.{written_protocols, other_protocols, IsProtocolName}
use Rattle.addr_text.specs.Values.{IsOctet, IsValue}
use Rattle.addr_text.specs.ValuesRead.{value_of, ether_of, read_octet as read_ether_octet, number_of, whole_number, mark_of}
use Rattle.addr_text.specs.Intervals.{IsInterval}
use Rattle.addr_text.specs.Times.{units, IsSeconds, IsParts, IsTime}
use Rattle.addr_text.proofs.Tables.{passes}
use Rattle.addr_text.proofs.ValueLaws.{value_of_complete}
use Rattle.token_forms.specs.Bytes.{is_word_byte}

-- each byte is one of a word
pub record InWord (text : List ℕ) : Type 0 where
  pub all : list_all is_word_byte text ≡ true

-- a word: one or more such bytes
pub record Word (text : List ℕ) : Type 0 where
  pub some : 0 < length text
  pub bytes : InWord text

-- a digit in any base is `0` to `9` or a letter
digit_in_word : (c : ℕ) → digit_value c < 36 → is_word_byte c ≡ true
digit_in_word c h = grind (arith, nat_tests)

in_word-nil : InWord []
in_word-nil = record { all = refl }

in_word-append : (xs ys : List ℕ) → InWord xs → InWord ys → InWord (xs ++ ys)
in_word-append xs ys h k = record { all = list_all-append is_word_byte xs ys ∙ and_from _ _ h.all k.all }

digits_in_word : (radix : ℕ) (text : List ℕ) → radix ≤ 36 → AllDigits radix text → InWord text
digits_in_word radix [] high h = in_word-nil
digits_in_word radix (c ∷ text) high h =
    record { all = and_from _ _ (digit_in_word c (let d = digit_value c in omega (arith, h.0))) (digits_in_word radix text high h.1).all }

decimal_in_word : (n : ℕ) → n < 2 ^ 64 → InWord (decimal n)
decimal_in_word n small = digits_in_word 10 (decimal n) (lit≤ tt) (decimal_is_IsNumeral n small).0.1

pub decimal_word : (n : ℕ) → n < 2 ^ 64 → Word (decimal n)
decimal_word n small = record { some = (decimal_is_IsNumeral n small).0.0; bytes = decimal_in_word n small }

number_in_word : (most : ℕ) (text : List ℕ) (n : ℕ) → most < 2 ^ 64 → IsNumberUpTo most text n → InWord text
number_in_word most text n small h = rw h.1 (decimal_in_word n (omega (arith, h.0)))

dotted_in_word : (text octets : List ℕ) → IsDotted text octets → InWord text
dotted_in_word text octets h =
    let fit = h.fit in
    let a = in_word-append (decimal h.a) (codes ".") (decimal_in_word h.a (omega arith)) dot in
    let b = in_word-append _ (codes ".") (in_word-append _ (decimal h.b) a (decimal_in_word h.b (omega arith))) dot in
    let c = in_word-append _ (codes ".") (in_word-append _ (decimal h.c) b (decimal_in_word h.c (omega arith))) dot in
    rw h.spelled (in_word-append _ (decimal h.d) c (decimal_in_word h.d (omega arith)))
  where
    dot : InWord (codes ".")
    dot = record { all = refl }

groups_in_word : (ipv4 : Bool) (lead text segments : List ℕ) → InWord lead → IsGroupsAfter ipv4 lead text segments → InWord text
groups_in_word ipv4 lead text [] first h = rw h in_word-nil
groups_in_word ipv4 lead text (s ∷ segments) first (inl (group, rest, split, is, others)) =
    let front = in_word-append lead group first (digits_in_word 16 group (lit≤ tt) is.0.0.1) in
    rw split (in_word-append (lead ++ group) rest front (groups_in_word ipv4 (58 ∷ []) rest segments (record { all = refl }) others))
groups_in_word ipv4 lead text (s ∷ segments) first (inr (last, octets, dotted, split, is, value)) = rw split (in_word-append lead last first (dotted_in_word last octets is))

colon_hex_in_word : (text segments : List ℕ) → IsColonHex text segments → InWord text
colon_hex_in_word text segments (inl (groups, eight)) = groups_in_word true [] text segments in_word-nil groups
colon_hex_in_word text segments (inr h) =
    let head = groups_in_word _ [] h.head_text h.head in_word-nil h.head_groups in
    let tail = groups_in_word _ [] h.tail_text h.tail in_word-nil h.tail_groups in
    rw h.spelled (in_word-append _ h.tail_text (in_word-append h.head_text (codes "::") head (record { all = refl })) tail)

joined_in_word : (groups : List (List ℕ)) → All IsOctet groups → InWord (join_with_byte 58 groups)
joined_in_word [] each = in_word-nil
joined_in_word (group ∷ []) each = digits_in_word 16 group (lit≤ tt) (All-head IsOctet group [] each).0.1
joined_in_word (group ∷ next ∷ groups) each =
    in_word-append group _ (digits_in_word 16 group (lit≤ tt) (All-head IsOctet group (next ∷ groups) each).0.1)
    (in_word-append (58 ∷ []) _ (record { all = refl }) (joined_in_word (next ∷ groups) (All-tail IsOctet group (next ∷ groups) each)))

name_in_word : (text : List ℕ) (n : ℕ) → IsProtocolName text n → InWord text
unfolding other_protocols
name_in_word text n (inl at) = record { all = passes (λ p. list_all is_word_byte p.0) written_protocols (text, n) refl at }
name_in_word text n (inr at) = record { all = passes (λ p. list_all is_word_byte p.0) other_protocols (text, n) refl at }

value_in_word : (kind : Kind) (text : List ℕ) (n : ℕ) → IsValue kind text n → InWord text
value_in_word Ipv4 text n h = dotted_in_word text h.octets h.dotted
value_in_word Ipv6 text n h = colon_hex_in_word text h.segments h.colon_hex
value_in_word Ether text n h = rw h.spelled (joined_in_word h.groups h.each)
value_in_word Proto text n (inl number) = number_in_word 255 text n (lit< tt) number
value_in_word Proto text n (inr name) = name_in_word text n name
value_in_word Service text n h = number_in_word 65535 text n (lit< tt) h
value_in_word Mark text n (inl number) = number_in_word 4294967295 text n (lit< tt) number
value_in_word Mark text n (inr mark) = rw mark.spelled (in_word-append (codes "0x") mark.digits (record { all = refl }) (digits_in_word 16 mark.digits (lit≤ tt) mark.hex.0.0.1))

-- no value has the empty text
no_value : (kind : Kind) (n : ℕ) → value_of kind [] ≡ Some n → ⊥
unfolding value_of other_protocols read_ipv4 read_octet read_number read_ipv6 read_segments read_segment ether_of read_ether_octet number_of whole_number mark_of
no_value Ipv4 n e = none-some n e
no_value Ipv6 n e = none-some n e
no_value Ether n e = none-some n e
no_value Proto n e = none-some n e
no_value Service n e = none-some n e
no_value Mark n e = none-some n e

value_some : (kind : Kind) (text : List ℕ) (n : ℕ) → IsValue kind text n → 0 < length text
value_some kind [] n h = absurd (no_value kind n (value_of_complete kind [] n h))
value_some kind (c ∷ text) n h = omega arith

more_some : (xs ys : List ℕ) → 0 < length xs → 0 < length (xs ++ ys)
more_some [] ys h = absurd (omega (arith, h))
more_some (x ∷ xs) ys h = omega arith

both_ends : (front mark behind : List ℕ) → 0 < length front → InWord front → InWord mark → InWord behind → Word (front ++ (mark ++ behind))
both_ends front mark behind some h k l = record { some = more_some front (mark ++ behind) some; bytes = in_word-append front (mark ++ behind) h (in_word-append mark behind k l) }

bits_small : (kind : Kind) → bits_of kind < 2 ^ 64
bits_small Ipv4 = lit< tt
bits_small Ipv6 = lit< tt
bits_small Ether = lit< tt
bits_small Proto = lit< tt
bits_small Service = lit< tt
bits_small Mark = lit< tt

pub interval_word : (kind : Kind) (text : List ℕ) (part : Interval) → IsInterval kind text part → Word text
interval_word kind text part (inl h) = record { some = value_some kind text part.low h.value; bytes = value_in_word kind text part.low h.value }
interval_word kind text part (inr (inl h)) =
    rw h.spelled
    (both_ends h.front (codes "/") h.digits (value_some kind h.front h.value h.front_value) (value_in_word kind h.front h.value h.front_value) (record { all = refl })
    (number_in_word (bits_of kind) h.digits h.fixed (bits_small kind) h.length))
interval_word kind text part (inr (inr h)) =
    rw h.spelled
    (both_ends h.front (codes "-") h.behind (value_some kind h.front part.low h.low) (value_in_word kind h.front part.low h.low) (record { all = refl }) (value_in_word kind h.behind part.high h.high))

-- the units' names are letters
AreUnits : List (List ℕ × ℕ) → Type 0
AreUnits [] = Unit {0}
AreUnits (u ∷ us) = InWord u.0 × AreUnits us

parts_in_word : (us : List (List ℕ × ℕ)) (text : List ℕ) (ms : ℕ) → AreUnits us → IsParts us text ms → InWord text
unfolding AreUnits
parts_in_word [] text ms are h = rw h.0 in_word-nil
parts_in_word (u ∷ us) text ms are (inl h) = parts_in_word us text ms are.1 h
parts_in_word (u ∷ us) text ms are (inr (digits, rest, count, later, split, is, others, value)) =
    rw split (in_word-append digits (u.0 ++ rest) (digits_in_word 10 digits (lit≤ tt) is.0.0.1) (in_word-append u.0 rest are.0 (parts_in_word us rest later are.1 others)))

letters : AreUnits units
unfolding AreUnits
letters = (record { all = refl }, (record { all = refl }, (record { all = refl }, (record { all = refl }, (record { all = refl }, tt)))))

pub time_word : (text : List ℕ) (ms : ℕ) → IsTime text ms → Word text
time_word text ms h = go h.spelled where
  go : IsSeconds text ms ⊎ ((0 < length text) × IsParts units text ms) → Word text
  go (inl (seconds, is, value)) = record { some = is.0.0.0; bytes = digits_in_word 10 text (lit≤ tt) is.0.0.1 }
  go (inr (some, parts)) = record { some = some; bytes = parts_in_word units text ms letters parts }
