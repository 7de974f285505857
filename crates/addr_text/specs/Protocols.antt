-- The names of transport protocols (nft(8), the type inet_proto; numbers by IANA).
use Rattle.std.specs.Prelude.{ℕ, List, [], ◌∷◌, Contains, codes, Option, option_map, find, bytes_eq, ◌==◌, ◌⊎◌}
use Rattle.std.specs.Option.{option_or}

-- Each protocol that is written by its name, with its number.
abbrev pub written_protocols : List (List ℕ × ℕ)
written_protocols =
    (codes "icmp", 1)
    ∷ (codes "igmp", 2)
    ∷ (codes "tcp", 6)
    ∷ (codes "udp", 17)
    ∷ (codes "dccp", 33)
    ∷ (codes "gre", 47)
    ∷ (codes "esp", 50)
    ∷ (codes "ah", 51)
    ∷ (codes "ipv6-icmp", 58)
    ∷ (codes "sctp", 132)
    ∷ (codes "udplite", 136)
    ∷ []

-- Each name that is read and never written: `icmpv6` of nft, and all other names of /etc/protocols in
-- Debian's netbase, in the lower case that they have there.
unfoldable pub other_protocols : List (List ℕ × ℕ)
other_protocols =
    (codes "ip", 0)
    ∷ (codes "hopopt", 0)
    ∷ (codes "ggp", 3)
    ∷ (codes "ipencap", 4)
    ∷ (codes "st", 5)
    ∷ (codes "egp", 8)
    ∷ (codes "igp", 9)
    ∷ (codes "pup", 12)
    ∷ (codes "hmp", 20)
    ∷ (codes "xns-idp", 22)
    ∷ (codes "rdp", 27)
    ∷ (codes "iso-tp4", 29)
    ∷ (codes "xtp", 36)
    ∷ (codes "ddp", 37)
    ∷ (codes "idpr-cmtp", 38)
    ∷ (codes "ipv6", 41)
    ∷ (codes "ipv6-route", 43)
    ∷ (codes "ipv6-frag", 44)
    ∷ (codes "idrp", 45)
    ∷ (codes "rsvp", 46)
    ∷ (codes "skip", 57)
    ∷ (codes "icmpv6", 58)
    ∷ (codes "ipv6-nonxt", 59)
    ∷ (codes "ipv6-opts", 60)
    ∷ (codes "rspf", 73)
    ∷ (codes "vmtp", 81)
    ∷ (codes "eigrp", 88)
    ∷ (codes "ospf", 89)
    ∷ (codes "ax.25", 93)
    ∷ (codes "ipip", 94)
    ∷ (codes "etherip", 97)
    ∷ (codes "encap", 98)
    ∷ (codes "pim", 103)
    ∷ (codes "ipcomp", 108)
    ∷ (codes "vrrp", 112)
    ∷ (codes "l2tp", 115)
    ∷ (codes "isis", 124)
    ∷ (codes "fc", 133)
    ∷ (codes "mobility-header", 135)
    ∷ (codes "mpls-in-ip", 137)
    ∷ (codes "manet", 138)
    ∷ (codes "hip", 139)
    ∷ (codes "shim6", 140)
    ∷ (codes "wesp", 141)
    ∷ (codes "rohc", 142)
    ∷ (codes "ethernet", 143)
    ∷ []

-- the text names the protocol of this number
abbrev pub IsProtocolName : List ℕ → ℕ → Type 0
IsProtocolName text n = Contains written_protocols (text, n) ⊎ Contains other_protocols (text, n)

-- the number of this name in a table
abbrev pub number_in : List (List ℕ × ℕ) → List ℕ → Option ℕ
number_in table text = option_map (λ p. p.1) (find (λ p. bytes_eq p.0 text) table)

-- the first name of this number in a table
abbrev pub name_in : List (List ℕ × ℕ) → ℕ → Option (List ℕ)
name_in table n = option_map (λ p. p.0) (find (λ p. p.1 == n) table)

-- the number of the protocol that the text names
abbrev pub protocol_number : List ℕ → Option ℕ
protocol_number text = option_or (number_in written_protocols text) (number_in other_protocols text)

-- the name that is written for the protocol of this number
abbrev pub protocol_name : ℕ → Option (List ℕ)
protocol_name n = name_in written_protocols n
