-- Words that have a meaning at their place.
use Rattle.std.specs.Prelude.{ℕ, ◌+◌, ◌*◌, ◌/◌, List, length, sum_by, Bool, ◌&&◌, ◌||◌, not, ◌==◌, nat_lt, nat_le, Option, Some, None, is_some, codes, cond, bytes_eq, position, if◌then◌else◌}
use Rattle.set_model.specs.Kind.{bits_of}
use Rattle.set_model.specs.declared.kind.Kind.{Kind}
use Rattle.set_model.specs.declared.kind.Kind.TheVariants as kinds
use Rattle.set_model.specs.declared.script.Family.{Family}
use Rattle.set_model.specs.declared.script.Family.TheVariants as families
use Rattle.set_model.specs.declared.script.SetDecl.{SetDecl}
use Rattle.token_forms.specs.Words.{is_name}
use Rattle.set_script.specs.declared.draft.Draft.{Draft}
use Rattle.set_script.specs.declared.draft.Declaration.{Declaration}
use Rattle.set_script.specs.declared.draft.Options.{Options}
use Rattle.set_script.specs.declared.words.FirstWord.{FirstWord}
use Rattle.set_script.specs.declared.words.FirstWord.TheVariants as firsts
use Rattle.set_script.specs.declared.words.AddWord.{AddWord}
use Rattle.set_script.specs.declared.words.AddWord.TheVariants as adds
use Rattle.set_script.specs.declared.words.FlushWord.{FlushWord}
use Rattle.set_script.specs.declared.words.FlushWord.TheVariants as flushes
use Rattle.set_script.specs.declared.words.TypeWord.{TypeWord}
use Rattle.set_script.specs.declared.words.TypeWord.TheVariants as types
use Rattle.set_script.specs.declared.words.ItemWord.{ItemWord}
use Rattle.set_script.specs.declared.words.ItemWord.TheVariants as items
use Rattle.set_script.specs.declared.words.Flag.{Flag}
use Rattle.set_script.specs.declared.words.Flag.TheVariants as flags
use Rattle.set_script.specs.declared.words.OptionWord.{OptionWord}
use Rattle.set_script.specs.declared.words.OptionWord.TheVariants as options
use Rattle.set_script.specs.Limits.{most_sets}

-- the first word of a statement
abbrev pub first_of : List ℕ → Option FirstWord
first_of t =
    if bytes_eq t (codes "add") then Some firsts.Add
    else if bytes_eq t (codes "table") then Some firsts.Table
    else if bytes_eq t (codes "create") then Some firsts.Create
    else if bytes_eq t (codes "delete") then Some firsts.Delete
    else if bytes_eq t (codes "destroy") then Some firsts.Destroy
    else if bytes_eq t (codes "flush") then Some firsts.Flush
    else if bytes_eq t (codes "at") then Some firsts.At
    else if bytes_eq t (codes "commit") then Some firsts.Commit
    else if bytes_eq t (codes "abort") then Some firsts.Abort
    else if bytes_eq t (codes "round") then Some firsts.Round
    else None

-- what an `add` adds
abbrev pub add_of : List ℕ → Option AddWord
add_of t =
    if bytes_eq t (codes "table") then Some adds.Table
    else if bytes_eq t (codes "set") then Some adds.Set
    else if bytes_eq t (codes "element") then Some adds.Element
    else None

-- What a `flush` flushes: a set, or the ruleset if the statement is the first.
abbrev pub flush_of : Bool → List ℕ → Option FlushWord
flush_of begun t =
    if bytes_eq t (codes "set") then Some flushes.Set
    else if bytes_eq t (codes "ruleset") && not begun then Some flushes.Ruleset
    else None

abbrev pub family_of : List ℕ → Option Family
family_of t =
    if bytes_eq t (codes "ip") then Some families.Ip
    else if bytes_eq t (codes "ip6") then Some families.Ip6
    else if bytes_eq t (codes "inet") then Some families.Inet
    else if bytes_eq t (codes "arp") then Some families.Arp
    else if bytes_eq t (codes "bridge") then Some families.Bridge
    else if bytes_eq t (codes "netdev") then Some families.Netdev
    else None

-- the place of a family in the order of nft(8)
abbrev pub family_number : Family → ℕ
family_number families.Ip = 0
family_number families.Ip6 = 1
family_number families.Inet = 2
family_number families.Arp = 3
family_number families.Bridge = 4
family_number families.Netdev = 5

-- what the type of a set is made of
abbrev pub type_word_of : List ℕ → Option TypeWord
type_word_of t =
    if bytes_eq t (codes "type") then Some types.Names
    else if bytes_eq t (codes "typeof") then Some types.Expressions
    else None

-- the kinds by their names in nft(8)
abbrev pub kind_of : List ℕ → Option Kind
kind_of t =
    if bytes_eq t (codes "ipv4_addr") then Some kinds.Ipv4
    else if bytes_eq t (codes "ipv6_addr") then Some kinds.Ipv6
    else if bytes_eq t (codes "ether_addr") then Some kinds.Ether
    else if bytes_eq t (codes "inet_proto") then Some kinds.Proto
    else if bytes_eq t (codes "inet_service") then Some kinds.Service
    else if bytes_eq t (codes "mark") then Some kinds.Mark
    else None

-- the bytes of a kind's value in a key, rounded up to 4 as the kernel aligns fields to its registers
abbrev pub key_bytes : Kind → ℕ
key_bytes kind = (bits_of kind / 8 + 3) / 4 * 4

-- A concatenation has at most 16 fields and 64 bytes.
abbrev pub has_room : List Kind → Kind → Bool
has_room ks kind = nat_lt (length ks) 16 && nat_le (sum_by key_bytes ks + key_bytes kind) 64

-- a kind, if there is room for it after these
abbrev pub kind_behind : List Kind → Option Kind → Option Kind
kind_behind ks None = None
kind_behind ks (Some kind) = cond (has_room ks kind) (Some kind) None

-- a set's family, table and name distinguish it from others
abbrev pub is_set : Family → List ℕ → List ℕ → SetDecl → Bool
is_set family table name s = (family_number s.family == family_number family) && bytes_eq s.table table && bytes_eq s.name name

-- the place of a declared set among the declared sets
abbrev pub set_place : List SetDecl → Family → List ℕ → List ℕ → Option ℕ
set_place schema family table name = position (is_set family table name) schema

-- A set may be declared before the first `commit`, `abort` or `round`, at most once, and only up to the
-- limit of a script.
abbrev pub may_declare : Draft → Family → List ℕ → List ℕ → Bool
may_declare d family table name = is_name name && not d.late && nat_lt (length d.schema) most_sets && not (is_some (set_place d.schema family table name))

-- the name of a set that may be declared
abbrev pub new_name : Draft → Family → List ℕ → List ℕ → Option (List ℕ)
new_name d family table name = cond (may_declare d family table name) (Some name) None

-- each item at most once, and none after `elements`
abbrev pub item_of : Declaration → List ℕ → Option ItemWord
item_of b t =
    if b.elements then None
    else if bytes_eq t (codes "flags") && not b.flags then Some items.Flags
    else if bytes_eq t (codes "timeout") && not (is_some b.decl.timeout) then Some items.Timeout
    else if bytes_eq t (codes "size") && not (is_some b.decl.size) then Some items.Size
    else if bytes_eq t (codes "gc-interval") && not b.gc_interval then Some items.GcInterval
    else if bytes_eq t (codes "policy") && not b.policy then Some items.Policy
    else if bytes_eq t (codes "comment") && not b.comment then Some items.Comment
    else if bytes_eq t (codes "elements") then Some items.Elements
    else None

-- each flag at most once
abbrev pub flag_of : Declaration → List ℕ → Option Flag
flag_of b t =
    if bytes_eq t (codes "interval") && not b.decl.interval then Some flags.Interval
    else if bytes_eq t (codes "timeout") && not b.timeout_flag then Some flags.Timeout
    else if bytes_eq t (codes "disjoint") && not b.decl.disjoint then Some flags.Disjoint
    else None

-- a set's policy: what it is optimized for
abbrev pub is_policy : List ℕ → Bool
is_policy t = bytes_eq t (codes "performance") || bytes_eq t (codes "memory")

-- each option of an element at most once, the first two in a set with the flag `timeout`
abbrev pub option_of : Bool → Options → List ℕ → Option OptionWord
option_of timed o t =
    if bytes_eq t (codes "timeout") && timed && not (is_some o.timeout) then Some options.Timeout
    else if bytes_eq t (codes "expires") && timed && not (is_some o.expires) then Some options.Expires
    else if bytes_eq t (codes "comment") && not (is_some o.comment) then Some options.Comment
    else None
