-- Worked examples of an explanation. They compute, so the proof check refuses a wrong text.
use Rattle.std.specs.Prelude.{◌≡◌, refl, ℕ, List, [], ◌∷◌, ◌++◌, Some, None, Option, codes, false, true}
use Rattle.std.specs.Fmt.{digits}
use Rattle.addr_text.specs.Written.{value_text, interval_text, time_text}
use Rattle.set_model.specs.declared.element.Element.{Element}
use Rattle.set_model.specs.declared.kind.Kind.TheVariants.{Ipv4, Service}
use Rattle.set_model.specs.declared.script.SetDecl.{SetDecl}
use Rattle.set_model.specs.declared.script.Family.TheVariants.{Ip}
use Rattle.key_match.specs.Matched.{Question, packet_text}

-- a set of addresses and ports
abbrev allowed : SetDecl
allowed = record { family = Ip; table = codes "filter"; name = codes "allowed"; kinds = Ipv4 ∷ Service ∷ []; interval = true; timed = true; disjoint = false; timeout = None; size = None }

abbrev element : ℕ → ℕ → ℕ → ℕ → ℕ → Option ℕ → List ℕ → Element
element id low high from to expiry comment = record { id = id; parts = record { low = low; high = high } ∷ record { low = from; high = to } ∷ []; expiry = expiry; comment = comment }

-- 192.0.2.0/24 . 80-443, which lives until 300000; 198.51.100.10 . 22 until 200; 203.0.113.7 . 1024-65535; 192.0.0.0/16 . 443;
-- and 10.0.0.0/8 . 440-450
abbrev elements : List Element
elements =
    element 0 3221225984 3221226239 80 443 (Some 300000) (codes "web") ∷ element 1 3325256714 3325256714 22 22 (Some 200) [] ∷ element 2 3405803783 3405803783 1024 65535 None []
    ∷ element 3 3221225472 3221291007 443 443 None []
    ∷ element 4 167772160 184549375 440 450 None []
    ∷ []

-- 192.0.2.77 or another address, and a port
abbrev asks : List Element → ℕ → ℕ → ℕ → Question
asks es address port now = record { declared = allowed; elements = es; lines = 6 ∷ 7 ∷ 8 ∷ 9 ∷ 10 ∷ []; key = address ∷ port ∷ []; now = now }

a_hit : packet_text (asks elements 3221226061 443 0) ≡ codes "ip filter allowed 192.0.2.77 . 443\n    element 0: 192.0.2.0/24 . 80-443 comment \"web\" (line 6), 5m left\n    also in element 3: 192.0.0.0/16 . 443 (line 9)\n"
unfolding digits value_text interval_text time_text lib.Count.count_leading_zeros
a_hit = refl

a_miss : packet_text (asks elements 3221226061 444 0) ≡ codes "ip filter allowed 192.0.2.77 . 444\n    no element\n    192.0.2.77 is in 2 of 5 elements, 444 in 1\n    nearest: element 0: 192.0.2.0/24 . 80-443 (line 6), but for 444\n"
unfolding digits value_text interval_text time_text lib.Count.count_leading_zeros
a_miss = refl

-- Port 443 is in three elements, and no element has the address. The first of them is the nearest, as long as it lives.
other_address : packet_text (asks elements 3221291008 443 0) ≡ codes "ip filter allowed 192.1.0.0 . 443\n    no element\n    192.1.0.0 is in 0 of 5 elements, 443 in 3\n    nearest: element 0: 192.0.2.0/24 . 80-443 (line 6), but for 192.1.0.0\n"
unfolding digits value_text interval_text time_text lib.Count.count_leading_zeros
other_address = refl

first_is_expired : packet_text (asks elements 3221291008 443 300000) ≡ codes "ip filter allowed 192.1.0.0 . 443\n    no element\n    192.1.0.0 is in 0 of 3 elements, 443 in 2\n    nearest: element 3: 192.0.0.0/16 . 443 (line 9), but for 192.1.0.0\n"
unfolding digits value_text interval_text time_text lib.Count.count_leading_zeros
first_is_expired = refl

-- Element 1 held the key until 200. No live element holds a value of it.
held_before : packet_text (asks elements 3325256714 22 200) ≡ codes "ip filter allowed 198.51.100.10 . 22\n    no element\n    expired: element 1: 198.51.100.10 . 22 (line 7), at 200ms\n    198.51.100.10 is in 0 of 4 elements, 22 in 0\n"
unfolding digits value_text interval_text time_text lib.Count.count_leading_zeros
held_before = refl

empty : packet_text (asks [] 3221226061 443 0) ≡ codes "ip filter allowed 192.0.2.77 . 443\n    no element\n    the set has no live elements\n"
unfolding digits value_text
empty = refl

-- Eleven elements hold the key: the answer, eight that are named, and two more.
abbrev same : ℕ → Element
same id = element id 167772160 184549375 53 53 None []

eleven : packet_text (asks (same 5 ∷ same 6 ∷ same 7 ∷ same 8 ∷ same 9 ∷ same 10 ∷ same 11 ∷ same 12 ∷ same 13 ∷ same 14 ∷ same 15 ∷ []) 167772161 53 0)
    ≡ codes "ip filter allowed 10.0.0.1 . 53\n    element 5: 10.0.0.0/8 . 53\n    also in element 6: 10.0.0.0/8 . 53\n    also in element 7: 10.0.0.0/8 . 53\n    also in element 8: 10.0.0.0/8 . 53\n    also in element 9: 10.0.0.0/8 . 53\n    also in element 10: 10.0.0.0/8 . 53\n    also in element 11: 10.0.0.0/8 . 53\n    also in element 12: 10.0.0.0/8 . 53\n    also in element 13: 10.0.0.0/8 . 53\n    and 2 more\n"
unfolding digits value_text interval_text lib.Count.count_leading_zeros
eleven = refl
