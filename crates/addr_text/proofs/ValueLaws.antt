-- `value_of` decides the relation between texts and values.
use Rattle.std.proofs.Common.{◌≡◌, ℕ, ◌⊎◌, Bool, true, false, not, cond, List, [], ◌∷◌, ◌++◌, take, drop, Option, Some, None, is_some, option_map, Result, ok_or, bytes_eq, refl, sym, ap, ◌∙◌, arith, inl, inr, take-append-drop, append-nil, lit≤, lit<, subst, true≢false}
use Rattle.std.proofs.lemmas.Bool.{eqb-true}
use Rattle.std.proofs.lemmas.Option.{none-some, same_Some}
use Rattle.std.proofs.lemmas.List.{nil_from_length}
use Rattle.std.proofs.lemmas.Slice.Eq.{bytes_eq-Decides}
use Rattle.std.proofs.lemmas.Fmt.{decimal_is_IsNumeral}
use Rattle.std.specs.Option.{option_or}
use Rattle.std.specs.Str.Parse.{IsNumeral, AllDigits}
use Rattle.std.specs.Net.Grammar.{Parses}
use Rattle.std.specs.Net.Reader.{Read, read_number, read_ipv4, read_ipv6, whole_value}
use Rattle.std.proofs.NetLemmas.Options.{cond_some, and_then_some, map_some}
use Rattle.std.proofs.NetLemmas.Ipv4.{read_ipv4_complete, read_ipv4_sound}
use Rattle.std.proofs.NetLemmas.Ipv6.{read_ipv6_complete, read_ipv6_sound, EndsGroups-nil}
use Rattle.set_model.specs.declared.kind.Kind.{Kind}
use Rattle.set_model.specs.declared.kind.Kind.TheVariants.{Ipv4, Ipv6, Ether, Proto, Service, Mark}
use Rattle.addr_text.specs.Numbers.{big_endian, IsNumberUpTo}
use Rattle.addr_text.specs.Protocols.{written_protocols, other_protocols, IsProtocolName, protocol_number}
use Rattle.addr_text.specs.Values.{IsIpv4, IsIpv6, IsHexMark, IsValue}
use Rattle.addr_text.specs.ValuesRead.{whole_number, number_of, hex_of, mark_of, value_of}
use Rattle.addr_text.proofs.NumberLaws.{number_of_sound, number_of_complete, hex_of_sound, hex_of_complete}
use Rattle.addr_text.proofs.Tables.{passes}
use Rattle.addr_text.proofs.ProtocolLaws.{protocol_number_sound, protocol_number_complete}
use Rattle.addr_text.proofs.EtherLaws.{ether_of_sound, ether_of_complete}

-- a reader of the front of a text that gives the value of a whole text
whole_value_sound : {A : Type 0} (read : Read A) (a : A) → whole_value read ≡ Some a → read ≡ Some (a, [])
whole_value_sound read a e =
    and_then_some _ read _ e λ r is kept.
    let (test, same) = cond_some _ _ _ kept in
    let empty : r.1 ≡ [] = nil_from_length r.1 (eqb-true _ _ test) in
    is ∙ (λ i. Some (same i, empty i))

pub ipv4_sound : (text : List ℕ) (n : ℕ) → option_map (big_endian 256) (whole_value (read_ipv4 text)) ≡ Some n → IsIpv4 text n
ipv4_sound text n e =
    map_some _ (whole_value (read_ipv4 text)) _ e λ octets read same.
    let (front, split, dotted) = read_ipv4_sound text octets [] (whole_value_sound _ octets read) in
    let all : text ≡ front = split ∙ append-nil front in
    record { octets = octets; dotted = rw all dotted; value = sym same }

pub ipv4_complete : (text : List ℕ) (n : ℕ) → IsIpv4 text n → option_map (big_endian 256) (whole_value (read_ipv4 text)) ≡ Some n
ipv4_complete text n h =
    let read = rw append-nil at (read_ipv4_complete text h.octets [] h.dotted (lit≤ tt)) in
    rw read (ap Some (sym h.value))

pub ipv6_sound : (text : List ℕ) (n : ℕ) → option_map (big_endian 65536) (whole_value (read_ipv6 text)) ≡ Some n → IsIpv6 text n
ipv6_sound text n e =
    map_some _ (whole_value (read_ipv6 text)) _ e λ segments read same.
    let (front, split, groups) = read_ipv6_sound text segments [] (whole_value_sound _ segments read) in
    let all : text ≡ front = split ∙ append-nil front in
    record { segments = segments; colon_hex = rw all groups; value = sym same }

pub ipv6_complete : (text : List ℕ) (n : ℕ) → IsIpv6 text n → option_map (big_endian 65536) (whole_value (read_ipv6 text)) ≡ Some n
ipv6_complete text n h =
    let read = rw append-nil at (read_ipv6_complete text h.segments [] h.colon_hex EndsGroups-nil) in
    rw read (ap Some (sym h.value))

-- the entry's name is no number
is_no_number : List ℕ × ℕ → Bool
is_no_number p = not (is_some (number_of 255 p.0))

-- No name of a protocol is a number.
names_apart : (text : List ℕ) (n : ℕ) → IsProtocolName text n → number_of 255 text ≡ None
unfolding is_no_number number_of whole_number read_number other_protocols
names_apart text n h = go (number_of 255 text) refl (tested h) where
  tested : IsProtocolName text n → is_no_number (text, n) ≡ true
  tested (inl at) = passes is_no_number written_protocols (text, n) refl at
  tested (inr at) = passes is_no_number other_protocols (text, n) refl at

  go : (o : Option ℕ) → number_of 255 text ≡ o → is_no_number (text, n) ≡ true → o ≡ None
  go None is absent = refl
  go (Some m) is absent = absurd (true≢false (sym absent ∙ ap (λ o. not (is_some o)) is))

proto_sound : (text : List ℕ) (n : ℕ) → option_or (number_of 255 text) (protocol_number text) ≡ Some n → IsNumberUpTo 255 text n ⊎ IsProtocolName text n
proto_sound text n e = go (number_of 255 text) refl e where
  go : (o : Option ℕ) → number_of 255 text ≡ o → option_or o (protocol_number text) ≡ Some n → IsNumberUpTo 255 text n ⊎ IsProtocolName text n
  go None is found = inr (protocol_number_sound text n found)
  go (Some m) is found = inl (number_of_sound 255 text n (lit< tt) (is ∙ found))

proto_complete : (text : List ℕ) (n : ℕ) → IsNumberUpTo 255 text n ⊎ IsProtocolName text n → option_or (number_of 255 text) (protocol_number text) ≡ Some n
proto_complete text n (inl number) = rw (number_of_complete 255 text n (lit< tt) number) refl
proto_complete text n (inr name) = rw (names_apart text n name) (protocol_number_complete text n name)

mark_of_sound : (text : List ℕ) (n : ℕ) → mark_of text ≡ Some n → IsNumberUpTo 4294967295 text n ⊎ IsHexMark text n
unfolding mark_of
mark_of_sound text n e = go (bytes_eq (take 2 text) (48 ∷ 120 ∷ [])) refl e where
  go : (b : Bool) → bytes_eq (take 2 text) (48 ∷ 120 ∷ []) ≡ b → cond b (hex_of 8 (drop 2 text)) (number_of 0xffff_ffff text) ≡ Some n → IsNumberUpTo 4294967295 text n ⊎ IsHexMark text n
  go true test found =
      let front : take 2 text ≡ 48 ∷ 120 ∷ [] = (bytes_eq-Decides (take 2 text) (48 ∷ 120 ∷ [])).0 test in
      inr (record { digits = drop 2 text; spelled = sym (take-append-drop 2 text) ∙ ap (λ t. t ++ drop 2 text) front; hex = hex_of_sound 8 (drop 2 text) n found })
  go false test found = inl (number_of_sound 4294967295 text n (lit< tt) found)

mark_of_complete : (text : List ℕ) (n : ℕ) → IsNumberUpTo 4294967295 text n ⊎ IsHexMark text n → mark_of text ≡ Some n
unfolding mark_of
mark_of_complete text n (inl number) = go (bytes_eq (take 2 text) (48 ∷ 120 ∷ [])) refl where
  -- `x` is no decimal digit
  digits : IsNumeral 10 text
  digits = rw number.1 (decimal_is_IsNumeral n (omega (arith, number.0))).0

  go : (b : Bool) → bytes_eq (take 2 text) (48 ∷ 120 ∷ []) ≡ b → cond b (hex_of 8 (drop 2 text)) (number_of 0xffff_ffff text) ≡ Some n
  go true test =
      let front : take 2 text ≡ 48 ∷ 120 ∷ [] = (bytes_eq-Decides (take 2 text) (48 ∷ 120 ∷ [])).0 test in
      let split : text ≡ 48 ∷ 120 ∷ drop 2 text = sym (take-append-drop 2 text) ∙ ap (λ t. t ++ drop 2 text) front in
      let all : AllDigits 10 (48 ∷ 120 ∷ drop 2 text) = subst (AllDigits 10) split digits.1 in
      absurd (omega (arith, all.1.0))
  go false test = number_of_complete 4294967295 text n (lit< tt) number
mark_of_complete text n (inr mark) = rw mark.spelled (hex_of_complete 8 mark.digits n (lit≤ tt) mark.hex)

pub value_of_sound : (kind : Kind) (text : List ℕ) (n : ℕ) → value_of kind text ≡ Some n → IsValue kind text n
unfolding value_of
value_of_sound Ipv4 text n e = ipv4_sound text n e
value_of_sound Ipv6 text n e = ipv6_sound text n e
value_of_sound Ether text n e = ether_of_sound text n e
value_of_sound Proto text n e = proto_sound text n e
value_of_sound Service text n e = number_of_sound 65535 text n (lit< tt) e
value_of_sound Mark text n e = mark_of_sound text n e

pub value_of_complete : (kind : Kind) (text : List ℕ) (n : ℕ) → IsValue kind text n → value_of kind text ≡ Some n
unfolding value_of
value_of_complete Ipv4 text n h = ipv4_complete text n h
value_of_complete Ipv6 text n h = ipv6_complete text n h
value_of_complete Ether text n h = ether_of_complete text n h
value_of_complete Proto text n h = proto_complete text n h
value_of_complete Service text n h = number_of_complete 65535 text n (lit< tt) h
value_of_complete Mark text n h = mark_of_complete text n h

-- no text means two values of a kind
pub IsValue_unique : (kind : Kind) (text : List ℕ) (m n : ℕ) → IsValue kind text m → IsValue kind text n → m ≡ n
IsValue_unique kind text m n h k = same_Some m n (sym (value_of_complete kind text m h) ∙ value_of_complete kind text n k)

-- a reader that answers the computed value answers by the relation
pub parses_value : {E : Type 0} (kind : Kind) (text : List ℕ) (r : Result ℕ E) (e : E) → r ≡ ok_or (value_of kind text) e → Parses (IsValue kind) text r
parses_value {E} kind text r e is = rw is (go (value_of kind text) refl) where
  go : (o : Option ℕ) → value_of kind text ≡ o → Parses (IsValue kind) text (ok_or o e)
  go None read = λ n h. none-some n (sym read ∙ value_of_complete kind text n h)
  go (Some n) read = value_of_sound kind text n read
