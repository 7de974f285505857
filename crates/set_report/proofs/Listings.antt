-- Worked examples of listings. They compute: a wrong byte here is refused.
use Rattle.std.specs.Prelude.{◌≡◌, refl, ℕ, List, [], ◌∷◌, ◌++◌, Some, None, Option, true, false, codes}
use Rattle.std.specs.Fmt.{digits}
use Rattle.std.specs.Net.Text.{hex_groups_text, hex}
use lib.Count.{count_leading_zeros}
use Rattle.set_model.specs.declared.kind.Kind.{Kind}
use Rattle.set_model.specs.declared.kind.Kind.TheVariants.{Ipv4, Ipv6, Ether, Proto, Service, Mark}
use Rattle.set_model.specs.declared.kind.Interval.{Interval}
use Rattle.set_model.specs.declared.element.Element.{Element}
use Rattle.set_model.specs.declared.script.Family.TheVariants.{Ip, Inet}
use Rattle.set_model.specs.declared.script.SetDecl.{SetDecl}
use Rattle.set_model.specs.SetState.{State, empty_set}
use Rattle.addr_text.specs.Written.{value_text, interval_text, time_text}
use Rattle.set_report.specs.ListText.{list_text}

-- a set of the family `ip` without flags, timeout and size
abbrev plain : List ℕ → List ℕ → List Kind → SetDecl
plain table name kinds = record { family = Ip; table = table; name = name; kinds = kinds; interval = false; timed = false; disjoint = false; timeout = None; size = None }

-- its state with these elements
abbrev holding : List Kind → List Element → State
holding kinds elements = record (empty_set kinds None false) { elements = elements }

abbrev one : ℕ → Interval
one n = record { low = n; high = n }

abbrev element : ℕ → List Interval → Option ℕ → List ℕ → Element
element id parts expiry comment = record { id = id; parts = parts; expiry = expiry; comment = comment }

-- An address and a port, and then a range of addresses and a port.
abbrev address_and_port : List Kind
address_and_port = Ipv4 ∷ Service ∷ []

abbrev hosts : State
hosts = holding address_and_port
    (element 0 (one 167772165 ∷ one 1024 ∷ []) None []
    ∷ element 1 ((record { low = 3232235776; high = 3232236033 }) ∷ one 2048 ∷ []) None []
    ∷ [])

ranges_are_listed : list_text ((record (plain (codes "filter") (codes "s") address_and_port) { interval = true }) ∷ []) (hosts ∷ []) 0
    ≡ codes "table ip filter {\n\tset s {\n\t\ttype ipv4_addr . inet_service\n\t\tflags interval\n\t\telements = { 10.0.0.5 . 1024,\n\t\t\t     192.168.1.0-192.168.2.1 . 2048 }\n\t}\n}\n"
unfolding digits value_text interval_text count_leading_zeros
ranges_are_listed = refl

-- An element that never expires, in a set that gives its elements an hour, and one that has it.
never_is_told : list_text ((record (plain (codes "t") (codes "p") (Service ∷ [])) { timed = true; timeout = Some 3600000 }) ∷ [])
    (holding (Service ∷ []) (element 0 (one 80 ∷ []) None [] ∷ element 1 (one 81 ∷ []) (Some 3600000) [] ∷ []) ∷ []) 0
    ≡ codes "table ip t {\n\tset p {\n\t\ttype inet_service\n\t\tflags timeout\n\t\ttimeout 1h\n\t\telements = { 80 timeout 0s,\n\t\t\t     81 expires 1h }\n\t}\n}\n"
unfolding digits value_text interval_text time_text
never_is_told = refl

-- In a set whose life is no time an element without expiry says nothing. What has expired has no time left.
passed_is_no_time : list_text ((record (plain (codes "t") (codes "p") (Mark ∷ [])) { interval = true; timed = true; disjoint = true; timeout = Some 0; size = Some 9 }) ∷ [])
    (holding (Mark ∷ []) (element 0 (one 16 ∷ []) None (codes "web") ∷ element 1 ((record { low = 1; high = 2 }) ∷ []) (Some 5) [] ∷ element 2 (one 17 ∷ []) (Some 8500) [] ∷ []) ∷ []) 5000
    ≡ codes "table ip t {\n\tset p {\n\t\ttype mark\n\t\tsize 9\n\t\tflags interval,timeout,disjoint\n\t\ttimeout 0s\n\t\telements = { 0x00000010 comment \"web\",\n\t\t\t     0x00000001-0x00000002 expires 0s,\n\t\t\t     0x00000011 expires 3s500ms }\n\t}\n}\n"
unfolding digits value_text interval_text time_text
passed_is_no_time = refl

-- Neighbours in a set in which no two live elements share a key.
disjoint_is_told : list_text ((record (plain (codes "t") (codes "p") (Service ∷ [])) { interval = true; disjoint = true }) ∷ [])
    ((record (holding (Service ∷ []) (element 0 ((record { low = 10; high = 20 }) ∷ []) None [] ∷ element 1 ((record { low = 5; high = 9 }) ∷ []) None [] ∷ [])) { disjoint = true }) ∷ []) 0
    ≡ codes "table ip t {\n\tset p {\n\t\ttype inet_service\n\t\tflags interval,disjoint\n\t\telements = { 10-20,\n\t\t\t     5-9 }\n\t}\n}\n"
unfolding digits value_text interval_text
disjoint_is_told = refl

-- Tables come in the order of their first sets, and a table's sets in their own order; a table is its family and name.
abbrev other : List ℕ → List ℕ → SetDecl
other table name = plain table name (Proto ∷ [])

abbrev bare : State
bare = holding (Proto ∷ []) []

tables_in_order : list_text (other (codes "b") (codes "x") ∷ other (codes "a") (codes "y") ∷ other (codes "b") (codes "v") ∷ (record (other (codes "b") (codes "w")) { family = Inet }) ∷ []) (bare ∷ bare ∷ holding (Proto ∷ []) (element 3 (one 6 ∷ []) None [] ∷ []) ∷ bare ∷ []) 0
    ≡ codes "table ip b {\n\tset x {\n\t\ttype inet_proto\n\t}\n\n\tset v {\n\t\ttype inet_proto\n\t\telements = { tcp }\n\t}\n}\n"
    ++ codes "\ntable ip a {\n\tset y {\n\t\ttype inet_proto\n\t}\n}\n"
    ++ codes "\ntable inet b {\n\tset w {\n\t\ttype inet_proto\n\t}\n}\n"
unfolding digits value_text interval_text
tables_in_order = refl

-- Blocks of addresses are listed as prefixes.
blocks_are_prefixes : list_text ((record (plain (codes "t") (codes "n") (Ipv4 ∷ Ipv6 ∷ Ether ∷ [])) { interval = true }) ∷ [])
    (holding (Ipv4 ∷ Ipv6 ∷ Ether ∷ []) (element 0 ((record { low = 167772160; high = 184549375 }) ∷ one 1 ∷ (record { low = 0; high = 1 }) ∷ []) None [] ∷ []) ∷ []) 0
    ≡ codes "table ip t {\n\tset n {\n\t\ttype ipv4_addr . ipv6_addr . ether_addr\n\t\tflags interval\n\t\telements = { 10.0.0.0/8 . ::1 . 00:00:00:00:00:00-00:00:00:00:00:01 }\n\t}\n}\n"
unfolding digits value_text interval_text count_leading_zeros hex_groups_text hex
blocks_are_prefixes = refl

nothing_declared : list_text [] [] 0 ≡ []
nothing_declared = refl
