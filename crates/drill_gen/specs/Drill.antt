-- A generated workload: a set of intervals and packets for it, all drawn from one seed.
use Rattle.std.specs.Prelude.{ℕ, zero, suc, ◌+◌, ◌*◌, ◌/◌, ◌%◌, ◌==◌, min, if◌then◌else◌, false, true, None, List, [], ◌∷◌, ◌++◌, map, codes}
use Rattle.std.specs.List.{range_with_len}
use Rattle.set_model.specs.declared.kind.Interval.{Interval}
use Rattle.set_model.specs.declared.kind.Kind.TheVariants.{Ipv4, Service}
use Rattle.set_model.specs.declared.packet.Packet.{Packet}
use Rattle.set_model.specs.declared.script.Family.TheVariants.{Ip}
use Rattle.set_model.specs.declared.script.Verb.TheVariants.{Add}
use Rattle.set_model.specs.declared.script.SetDecl.{SetDecl}
use Rattle.set_model.specs.declared.script.Step.{Step}
use Rattle.set_model.specs.declared.script.Step.TheVariants.{Change, Commit}
use Rattle.set_model.specs.declared.script.Script.{Script}

-- The state of the linear congruential generator after one more draw.
abbrev pub next_state : ℕ → ℕ
next_state x = (x * 1103515245 + 12345) % 2147483648

-- the state after so many draws
abbrev pub after_draws : ℕ → ℕ → ℕ
after_draws x zero = x
after_draws x (suc n) = next_state (after_draws x n)

-- draw n from a state on: the high bits of the state after it
abbrev pub draw_from : ℕ → ℕ → ℕ
draw_from x n = after_draws x (suc n) / 32768

-- The state of a seed.
abbrev pub seeded : ℕ → ℕ
seeded seed = seed % 2147483648

-- Draw n of a seed, from 0 on: a number from 0 to 65,535.
abbrev pub draw : ℕ → ℕ → ℕ
draw seed n = draw_from (seeded seed) n

-- An address of two draws, the high half first.
abbrev pub address : ℕ → ℕ → ℕ
address high low = high * 65536 + low

-- the values from low on: so many after it, and none past the limit
abbrev pub span_from : ℕ → ℕ → ℕ → Interval
span_from low span limit = record { low = low; high = min (low + span) limit }

-- Element i takes four draws, for its address, its spans and its port.
abbrev pub element_draw : ℕ → ℕ → ℕ → ℕ
element_draw seed i k = draw seed (4 * i + k)

-- how many values follow the first one of its intervals: up to 255 addresses and up to 15 ports
abbrev pub address_span : ℕ → ℕ → ℕ
address_span seed i = element_draw seed i 2 % 256

abbrev pub port_span : ℕ → ℕ → ℕ
port_span seed i = element_draw seed i 2 / 256 % 16

abbrev pub addresses : ℕ → ℕ → Interval
addresses seed i = span_from (address (element_draw seed i 0) (element_draw seed i 1)) (address_span seed i) 4294967295

abbrev pub ports : ℕ → ℕ → Interval
ports seed i = span_from (element_draw seed i 3) (port_span seed i) 65535

-- The set `ip drill s` of addresses and ports.
abbrev pub drill_set : SetDecl
drill_set = record { family = Ip; table = codes "drill"; name = codes "s"; kinds = Ipv4 ∷ Service ∷ []; interval = true; timed = false; disjoint = false; timeout = None; size = None }

-- Element i is added on line i + 1.
abbrev pub addition : ℕ → ℕ → Step
addition seed i = Change (i + 1) 0 Add (record { parts = addresses seed i ∷ ports seed i ∷ []; expiry = None; comment = [] }) 0

-- The steps add the elements in one transaction.
abbrev pub drill_steps : ℕ → ℕ → List Step
drill_steps seed count = map (addition seed) (range_with_len 0 count) ++ Commit 0 ∷ []

-- The script has one section.
abbrev pub drill_script : ℕ → ℕ → Script
drill_script seed count = record { schema = drill_set ∷ []; sections = drill_steps seed count ∷ []; last = 0 }

-- How many draws come before packet p: four for each element, and five for each pair of packets. The
-- even packet takes two and the odd one three.
abbrev pub packet_place : ℕ → ℕ → ℕ
packet_place count p = 4 * count + 5 * (p / 2) + 2 * (p % 2)

abbrev pub packet_draw : ℕ → ℕ → ℕ → ℕ → ℕ
packet_draw seed count p k = draw seed (packet_place count p + k)

-- a value of an interval: so far after its low end, but not past its high end
abbrev pub value_in : Interval → ℕ → ℕ
value_in part offset = min (part.low + offset) part.high

-- An even packet is in an element: its first draw says in which, its second how far after the low ends.
abbrev pub near_key : ℕ → ℕ → ℕ → List ℕ
near_key seed e offset = value_in (addresses seed e) (offset % (address_span seed e + 1)) ∷ value_in (ports seed e) (offset % (port_span seed e + 1)) ∷ []

-- An odd packet has any address and port.
abbrev pub packet_key : ℕ → ℕ → ℕ → List ℕ
packet_key seed count p =
    if p % 2 == 0
    then near_key seed (packet_draw seed count p 0 % count) (packet_draw seed count p 1)
    else address (packet_draw seed count p 0) (packet_draw seed count p 1) ∷ packet_draw seed count p 2 ∷ []

abbrev pub drill_packet : ℕ → ℕ → ℕ → Packet
drill_packet seed count p = record { set = 0; key = packet_key seed count p; now = 0 }

-- The packets, as many as elements.
abbrev pub drill_packets : ℕ → ℕ → List Packet
drill_packets seed count = map (drill_packet seed count) (range_with_len 0 count)

-- They are one key section.
abbrev pub drill_keys : ℕ → ℕ → List (List Packet)
drill_keys seed count = drill_packets seed count ∷ []
