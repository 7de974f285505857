-- `ether_of` decides the relation between texts and Ethernet addresses.
use Rattle.std.proofs.Common.{◌≡◌, ℕ, zero, suc, ◌+◌, ◌*◌, ◌^◌, ◌<◌, ◌≤◌, List, [], ◌∷◌, ◌++◌, length, map, flat_map, fold, take, drop, Some, All, refl, sym, ap, ◌∙◌, arith, take-append-drop, append-nil, zero-add, drop_at, lit≤, le-ltb}
use Rattle.std.proofs.Math.Nat.{pow-le-pow_right}
use Rattle.std.proofs.lemmas.Bool.{eqb-true, ltb-false}
use Rattle.std.proofs.lemmas.List.{nil_from_length}
use Rattle.std.proofs.lemmas.List.Elements.{All-nil, All-cons, All-head, All-tail}
use Rattle.std.proofs.lemmas.Int.Digits.{digits_value-lt}
use Rattle.std.specs.List.{join_with_byte}
use Rattle.std.specs.Str.Parse.{digits_value}
use Rattle.std.specs.Net.Reader.{read_number, read_byte, colon}
use Rattle.std.proofs.NetLemmas.Options.{cond_some, cond_none, and_then_some, same_parts}
use Rattle.std.proofs.NetLemmas.Numbers.{NoDigit, read_number_some, read_number_sound}
use Rattle.std.proofs.NetLemmas.Ipv4.{read_byte_sound}
use Rattle.addr_text.specs.Numbers.{big_endian}
use Rattle.addr_text.specs.Values.{IsOctet, IsEther}
use Rattle.addr_text.specs.ValuesRead.{read_octet, next_octet, ether_behind, ether_of}

read_octet_complete : (group rest : List ℕ) → IsOctet group → NoDigit 16 rest → read_octet (group ++ rest) ≡ Some (digits_value 16 group, rest)
unfolding read_octet
read_octet_complete group rest h stop =
    let below = digits_value-lt 16 group h.0.1 in
    let most : 16 ^ length group ≤ 16 ^ 2 = pow-le-pow_right (lit≤ tt) h.1 in
    let read = read_number_some 16 255 group rest h.0 (omega arith) stop in
    rw (read, le-ltb 2 (length group) h.1, drop_at group rest _ refl)

read_octet_sound : (text rest : List ℕ) (n : ℕ) → read_octet text ≡ Some (n, rest) → (group : List ℕ) × (text ≡ group ++ rest) × IsOctet group × (n ≡ digits_value 16 group)
unfolding read_octet
read_octet_sound text rest n e =
    and_then_some _ (read_number 16 255 text) _ e λ r read kept.
    let (test, some) = cond_none _ _ _ kept in
    let (value_is, rest_is) = same_parts r.0 n (drop r.1 text) rest some in
    let (number, fits, len, stop) = read_number_sound 16 255 text r.0 r.1 (lit≤ tt) read in
    (take r.1 text, rw (← rest_is) (sym (take-append-drop r.1 text)), (number.0, omega (arith, ltb-false 2 r.1 test)), sym value_is ∙ sym number.1)

-- groups, each after a colon
abbrev behind : List (List ℕ) → List ℕ
behind groups = flat_map (λ group. 58 ∷ group) groups

join_with_byte-behind : (group : List ℕ) (groups : List (List ℕ)) → join_with_byte 58 (group ∷ groups) ≡ group ++ behind groups
join_with_byte-behind group [] = sym (append-nil group)
join_with_byte-behind group (next ∷ groups) = ap (λ t. group ++ 58 ∷ t) (join_with_byte-behind next groups)

behind_ends : (groups : List (List ℕ)) → NoDigit 16 (behind groups)
behind_ends [] = lit≤ tt
behind_ends (group ∷ groups) = lit≤ tt

-- the octets of the groups, after the value so far
abbrev value_behind : ℕ → List (List ℕ) → ℕ
value_behind value groups = fold (λ n digit. n * 256 + digit) value (map (digits_value 16) groups)

ether_behind_complete : (value : ℕ) (groups : List (List ℕ)) → All IsOctet groups → ether_behind (length groups) value (behind groups) ≡ Some (value_behind value groups)
unfolding ether_behind
ether_behind_complete value [] each = refl
ether_behind_complete value (group ∷ groups) each =
    let first = read_octet_complete group (behind groups) (All-head IsOctet group groups each) (behind_ends groups) in
    rw first (ether_behind_complete (value * 256 + digits_value 16 group) groups (All-tail IsOctet group groups each))

value_behind_first : (group : List ℕ) (groups : List (List ℕ)) → big_endian 256 (map (digits_value 16) (group ∷ groups)) ≡ value_behind (digits_value 16 group) groups
value_behind_first group groups = ap (λ value. value_behind value groups) (zero-add (digits_value 16 group))

record IsBehind (more value : ℕ) (text : List ℕ) (n : ℕ) : Type 0 where
  groups : List (List ℕ)
  count : length groups ≡ more
  each : All IsOctet groups
  spelled : text ≡ behind groups
  is : n ≡ value_behind value groups

ether_behind_sound : (more value : ℕ) (text : List ℕ) (n : ℕ) → ether_behind more value text ≡ Some n → IsBehind more value text n
unfolding ether_behind
ether_behind_sound zero value text n e =
    let (test, same) = cond_some _ _ _ e in
    record {
      groups = [];
      count = refl;
      each = All-nil IsOctet;
      spelled = nil_from_length text (eqb-true _ _ test);
      is = sym same;
    }
ether_behind_sound (suc more) value text n e =
    and_then_some _ (next_octet text) _ e λ octet next e₂.
    and_then_some _ (read_byte colon text) _ next λ group colon_read read.
    let (digits, split, is_octet, octet_is) = read_octet_sound group octet.1 octet.0 read in
    let rest = ether_behind_sound more (value * 256 + octet.0) octet.1 n e₂ in
    record {
      groups = digits ∷ rest.groups;
      count = ap suc rest.count;
      each = All-cons IsOctet digits rest.groups is_octet rest.each;
      spelled = read_byte_sound colon text group colon_read ∙ ap (λ t. 58 ∷ t) (split ∙ ap (λ t. digits ++ t) rest.spelled);
      is = rest.is ∙ ap (λ d. value_behind (value * 256 + d) rest.groups) octet_is;
    }

pub ether_of_sound : (text : List ℕ) (n : ℕ) → ether_of text ≡ Some n → IsEther text n
unfolding ether_of
ether_of_sound text n e =
    and_then_some _ (read_octet text) _ e λ octet read e₁.
    let (digits, split, is_octet, octet_is) = read_octet_sound text octet.1 octet.0 read in
    let rest = ether_behind_sound 5 octet.0 octet.1 n e₁ in
    record {
      groups = digits ∷ rest.groups;
      six = ap suc rest.count;
      each = All-cons IsOctet digits rest.groups is_octet rest.each;
      spelled = split ∙ ap (λ t. digits ++ t) rest.spelled ∙ sym (join_with_byte-behind digits rest.groups);
      value = rest.is ∙ ap (λ d. value_behind d rest.groups) octet_is ∙ sym (value_behind_first digits rest.groups);
    }

from_groups : (groups : List (List ℕ)) → length groups ≡ 6 → All IsOctet groups → ether_of (join_with_byte 58 groups) ≡ Some (big_endian 256 (map (digits_value 16) groups))
unfolding ether_of
from_groups [] six each = absurd (omega arith)
from_groups (group ∷ groups) six each =
    let first = read_octet_complete group (behind groups) (All-head IsOctet group groups each) (behind_ends groups) in
    let five : length groups ≡ 5 = omega arith in
    let rest = rw five at (ether_behind_complete (digits_value 16 group) groups (All-tail IsOctet group groups each)) in
    rw (join_with_byte-behind group groups, first) (rest ∙ ap Some (sym (value_behind_first group groups)))

pub ether_of_complete : (text : List ℕ) (n : ℕ) → IsEther text n → ether_of text ≡ Some n
ether_of_complete text n h = rw (h.spelled, h.value) (from_groups h.groups h.six h.each)

-- one octet of those after
pub ether_behind-next : (more rest value : ℕ) (text behind : List ℕ) (octet : ℕ) → more ≡ suc rest → next_octet text ≡ Some (octet, behind) → ether_behind more value text ≡ ether_behind rest (value * 256 + octet) behind
unfolding ether_behind
ether_behind-next more rest value text behind octet count read = rw (count, read) refl

pub read_octet-lt : (text behind : List ℕ) (octet : ℕ) → read_octet text ≡ Some (octet, behind) → octet < 256
unfolding read_octet
read_octet-lt text behind octet e =
    and_then_some _ (read_number 16 255 text) _ e λ r read kept.
    let (test, some) = cond_none _ _ _ kept in
    let fits = (read_number_sound 16 255 text r.0 r.1 (lit≤ tt) read).1 in
    let value_is = (same_parts r.0 octet (drop r.1 text) behind some).0 in
    omega arith

pub next_octet-lt : (text behind : List ℕ) (octet : ℕ) → next_octet text ≡ Some (octet, behind) → octet < 256
next_octet-lt text behind octet e = and_then_some _ (read_byte colon text) _ e λ group colon_read read. read_octet-lt group behind octet read
