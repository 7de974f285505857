-- The declared sets as structs of C (pipapo.h, pipapo_declared).
use Rattle.std.specs.Prelude.{◌≡◌, ◌≤◌, ℕ, Bool, true, false, not, ◌&&◌, nat_eq, nat_lt, nat_le, List, length, map, take, Option, Some, None, slice_get}
use Rattle.std.specs.List.{list_all}
use Rattle.set_model.specs.declared.script.SetDecl.{SetDecl}
use Rattle.c_handles.specs.Shapes.{kind_numbered, family_numbered, name_in, most_of}
use Rattle.c_handles.specs.declared.declared_set.DeclaredSet.{DeclaredSet}
use Rattle.c_handles.specs.declared.fault.Fault.{Fault}
use Rattle.c_handles.specs.declared.fault.Fault.TheVariants.{Handle, Set, Room}
use Rattle.c_handles.specs.declared.object.Object.{Object}
use Rattle.c_handles.specs.declared.object.Object.TheVariants.{Control, Reader, Elements}

-- The declared set that a struct is. In a flag 0 is false, and a size or a timeout of 0 is none.
abbrev pub declared_by : DeclaredSet → SetDecl
declared_by s = record {
  family = family_numbered s.family;
  table = name_in s.table;
  name = name_in s.name;
  kinds = map kind_numbered (take s.fields s.kinds);
  interval = not (nat_eq s.interval 0);
  timed = not (nat_eq s.timed 0);
  disjoint = not (nat_eq s.disjoint 0);
  timeout = most_of s.timeout;
  size = most_of s.size;
}

-- The struct has room for a name: at most 128 bytes, and none is zero.
abbrev pub takes_name : List ℕ → Bool
takes_name name = nat_le (length name) 128 && list_all (λ byte. not (nat_eq byte 0)) name

-- A number isn't zero, which stands for none.
abbrev pub takes_number : Option ℕ → Bool
takes_number None = true
takes_number (Some number) = nat_lt 0 number

-- A struct can be a declared set.
abbrev pub can_declare : SetDecl → Bool
can_declare d = nat_le (length d.kinds) 16 && takes_number d.size && takes_number d.timeout && takes_name d.table && takes_name d.name

-- The struct is a control's declared set.
abbrev pub HasDescribed : Option Object → ℕ → DeclaredSet → Type 0
HasDescribed (Some (Control c)) set shape = slice_get c.schema set ≡ Some (declared_by shape)
HasDescribed held set shape = ⊥

-- Why it isn't: there is no such set, or no struct can be it.
abbrev pub RefusesDescription : ℕ → Object → Fault → Type 0
RefusesDescription set (Control c) Set = length c.schema ≤ set
RefusesDescription set (Control c) Room = (d : SetDecl) × (slice_get c.schema set ≡ Some d) × (can_declare d ≡ false)
RefusesDescription set (Control c) other = ⊥
RefusesDescription set (Reader s) fault = fault ≡ Handle
RefusesDescription set (Elements e) fault = fault ≡ Handle
