-- Worked examples of the definitions. They compute, so the proof check refuses a wrong number.
use Rattle.std.specs.Prelude.{◌≡◌, refl, ℕ, List, [], ◌∷◌, ◌++◌, map, Option, Some, None, true, false}
use Rattle.set_model.specs.declared.kind.Kind.TheVariants.{Ipv4, Service}
use Rattle.set_model.specs.declared.kind.Interval.{Interval}
use Rattle.set_model.specs.declared.element.Element.{Element}
use Rattle.set_model.specs.SetState.{State, empty_set}
use Rattle.pipapo_image.specs.Image.Found.{found}
use Rattle.set_compare.specs.Missing.{finds, is_missing, is_up_to}
use Rattle.set_compare.specs.Search.{volume, total_volume, part_up_to, part_above, is_reached}

-- an element of these addresses and this port
abbrev hosts : (id low high port : ℕ) → Option ℕ → Element
hosts id low high port expiry = record { id = id; parts = record { low = low; high = high } ∷ record { low = port; high = port } ∷ []; expiry = expiry; comment = [] }

abbrev of_elements : List Element → State
of_elements elements = record (empty_set (Ipv4 ∷ Service ∷ []) None false) { elements = elements; next = 9 }

-- 10.0.0.0/30 . 80
abbrev network : State
network = of_elements (hosts 0 167772160 167772163 80 None ∷ [])

-- its four addresses one by one, in another order
abbrev singles : List Element
singles = hosts 0 167772162 167772162 80 None ∷ hosts 1 167772160 167772160 80 None ∷ hosts 2 167772163 167772163 80 None ∷ hosts 3 167772161 167772161 80 None ∷ []

-- 10.0.0.0 to 10.0.0.3 at port 80, the address before and the one after, and port 81
abbrev probes : List (List ℕ)
probes =
    (167772159 ∷ 80 ∷ []) ∷ (167772160 ∷ 80 ∷ []) ∷ (167772161 ∷ 80 ∷ []) ∷ (167772162 ∷ 80 ∷ []) ∷ (167772163 ∷ 80 ∷ []) ∷ (167772164 ∷ 80 ∷ []) ∷ (167772161 ∷ 81 ∷ []) ∷ []

-- The network and its four addresses decide alike.
found_by_network : map (finds network 0) probes ≡ false ∷ true ∷ true ∷ true ∷ true ∷ false ∷ false ∷ []
found_by_network = refl

found_by_singles : map (finds (of_elements singles) 0) probes ≡ map (finds network 0) probes
found_by_singles = refl

-- With one port more, 10.0.0.1 . 81, the four addresses have a key that the network misses. It is in element 4.
abbrev one_more : State
one_more = of_elements (singles ++ hosts 4 167772161 167772161 81 None ∷ [])

one_missing : map (is_missing one_more 0 network 0) probes ≡ false ∷ false ∷ false ∷ false ∷ false ∷ false ∷ true ∷ []
one_missing = refl

none_back : map (is_missing network 0 one_more 0) probes ≡ false ∷ false ∷ false ∷ false ∷ false ∷ false ∷ false ∷ []
none_back = refl

in_the_last : found one_more (167772161 ∷ 81 ∷ []) 0 ≡ Some (record { place = 4; id = 4 })
in_the_last = refl

-- An element that is expired at a set's moment doesn't count. One of the addresses expires at 30,000.
abbrev timed : State
timed = of_elements (hosts 0 167772160 167772162 80 None ∷ hosts 1 167772163 167772163 80 (Some 30000) ∷ [])

before_expiry : map (is_missing network 0 timed 29999) probes ≡ false ∷ false ∷ false ∷ false ∷ false ∷ false ∷ false ∷ []
before_expiry = refl

at_expiry : map (is_missing network 0 timed 30000) probes ≡ false ∷ false ∷ false ∷ false ∷ true ∷ false ∷ false ∷ []
at_expiry = refl

-- The first field decides first: 10.0.0.1 . 65535 comes before 10.0.0.2 . 0.
in_order : is_up_to (167772161 ∷ 65535 ∷ []) (167772162 ∷ 0 ∷ []) ≡ true
in_order = refl

not_in_order : is_up_to (167772162 ∷ 0 ∷ []) (167772161 ∷ 65535 ∷ []) ≡ false
not_in_order = refl

-- 10.0.0.0/30 . 80-83 has 16 keys. An element of 10.0.0.0-10.0.0.1 . 80-81 holds its least key. Above it are 10.0.0.2-10.0.0.3 . 80-83 with
-- eight keys, and 10.0.0.0-10.0.0.1 . 82-83 with four.
abbrev block : List Interval
block = record { low = 167772160; high = 167772163 } ∷ record { low = 80; high = 83 } ∷ []

keys_of_block : volume block ≡ 16
keys_of_block = refl

above_in_addresses : part_above block 0 167772161 ≡ record { low = 167772162; high = 167772163 } ∷ record { low = 80; high = 83 } ∷ []
above_in_addresses = refl

above_in_ports : part_above (part_up_to block 0 167772161) 1 81 ≡ record { low = 167772160; high = 167772161 } ∷ record { low = 82; high = 83 } ∷ []
above_in_ports = refl

left_of_block : total_volume (part_above block 0 167772161 ∷ part_above (part_up_to block 0 167772161) 1 81 ∷ []) ≡ 12
left_of_block = refl

-- No key is reached until there is a least key.
nothing_reached : map (λ least. is_reached least (80 ∷ [])) (None ∷ Some (79 ∷ []) ∷ Some (81 ∷ []) ∷ []) ≡ false ∷ true ∷ false ∷ []
nothing_reached = refl
