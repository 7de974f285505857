-- The sets that the structs of C describe (pipapo.h, pipapo_set).
use Rattle.std.specs.Prelude.{ℕ, ◌^◌, Bool, true, not, ◌&&◌, nat_eq, nat_lt, nat_le, List, [], ◌∷◌, length, map, take, take_while, slice_index_or, Option, Some, None, if◌then◌else◌}
use Rattle.std.specs.List.{list_all}
use Rattle.set_model.specs.declared.kind.Kind.{Kind}
use Rattle.set_model.specs.declared.kind.Kind.TheVariants.{Ipv4, Ipv6, Ether, Proto, Service, Mark}
use Rattle.set_model.specs.declared.script.Family.{Family}
use Rattle.set_model.specs.declared.script.Family.TheVariants.{Ip, Ip6, Inet, Arp, Bridge, Netdev}
use Rattle.set_model.specs.declared.script.SetDecl.{SetDecl}
use Rattle.c_handles.specs.declared.shapes.SetShape.{SetShape}

-- the kind of a number below six (enum pipapo_kind)
abbrev pub kind_numbered : ℕ → Kind
kind_numbered number = slice_index_or (Ipv4 ∷ Ipv6 ∷ Ether ∷ Proto ∷ Service ∷ Mark ∷ []) number Mark

-- the family of a number below six (enum pipapo_family)
abbrev pub family_numbered : ℕ → Family
family_numbered number = slice_index_or (Ip ∷ Ip6 ∷ Inet ∷ Arp ∷ Bridge ∷ Netdev ∷ []) number Netdev

-- A struct describes a set if it has 1 to 16 fields, each of a kind, and a family.
abbrev pub describes_set : SetShape → Bool
describes_set s = nat_lt 0 s.fields && nat_le s.fields 16 && nat_lt s.family 6 && list_all (λ number. nat_lt number 6) (take s.fields s.kinds)

-- Structs describe sets if each does, and there is a number for each set.
abbrev pub describe_sets : List SetShape → Bool
describe_sets shapes = nat_le (length shapes) (2 ^ 32) && list_all describes_set shapes

-- the bytes of a name: those before the first zero byte
abbrev pub name_in : List ℕ → List ℕ
name_in bytes = take_while (λ byte. not (nat_eq byte 0)) bytes

-- the most elements that a set may have; 0 stands for any number
abbrev pub most_of : ℕ → Option ℕ
most_of size = if nat_eq size 0 then None else Some size

-- The set that a struct describes. Its elements may be intervals, and may expire.
abbrev pub described : SetShape → SetDecl
described s = record {
  family = family_numbered s.family;
  table = name_in s.table;
  name = name_in s.name;
  kinds = map kind_numbered (take s.fields s.kinds);
  interval = true;
  timed = true;
  disjoint = not (nat_eq s.disjoint 0);
  timeout = None;
  size = most_of s.size;
}
