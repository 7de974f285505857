-- Worked examples of the definitions. They compute, so the proof check refuses a wrong word.
use Rattle.std.specs.Prelude.{◌≡◌, refl, ℕ, List, [], ◌∷◌, map, Option, Some, None, codes}
use Rattle.set_model.specs.declared.kind.Kind.{Kind}
use Rattle.set_model.specs.declared.kind.Kind.TheVariants.{Ipv4, Ipv6, Ether, Proto, Service, Mark}
use Rattle.set_script.specs.declared.expression.Expression.{Expression}
use Rattle.set_script.specs.declared.expression.Expression.TheVariants as parts
use Rattle.set_script.specs.Expressions.{kind_of_whole, grown, expression_behind}

-- the kind of an expression by its words, if it is one
abbrev kind_after : List (List ℕ) → Option Expression → Option Kind
kind_after ws None = None
kind_after [] (Some part) = kind_of_whole part
kind_after (w ∷ ws) (Some part) = kind_after ws (grown part w)

abbrev kind_by_words : List (List ℕ) → Option Kind
kind_by_words ws = kind_after ws (Some parts.Empty)

-- the expressions and their kinds, as nft 1.0.6 has them
abbrev expressions : List (List (List ℕ) × Kind)
expressions =
    (codes "ip" ∷ codes "saddr" ∷ [], Ipv4) ∷
    (codes "ip" ∷ codes "daddr" ∷ [], Ipv4) ∷
    (codes "ip" ∷ codes "protocol" ∷ [], Proto) ∷
    (codes "ip6" ∷ codes "saddr" ∷ [], Ipv6) ∷
    (codes "ip6" ∷ codes "daddr" ∷ [], Ipv6) ∷
    (codes "ip6" ∷ codes "nexthdr" ∷ [], Proto) ∷
    (codes "meta" ∷ codes "l4proto" ∷ [], Proto) ∷
    (codes "tcp" ∷ codes "sport" ∷ [], Service) ∷
    (codes "tcp" ∷ codes "dport" ∷ [], Service) ∷
    (codes "udp" ∷ codes "sport" ∷ [], Service) ∷
    (codes "udp" ∷ codes "dport" ∷ [], Service) ∷
    (codes "sctp" ∷ codes "sport" ∷ [], Service) ∷
    (codes "sctp" ∷ codes "dport" ∷ [], Service) ∷
    (codes "dccp" ∷ codes "sport" ∷ [], Service) ∷
    (codes "dccp" ∷ codes "dport" ∷ [], Service) ∷
    (codes "udplite" ∷ codes "sport" ∷ [], Service) ∷
    (codes "udplite" ∷ codes "dport" ∷ [], Service) ∷
    (codes "th" ∷ codes "sport" ∷ [], Service) ∷
    (codes "th" ∷ codes "dport" ∷ [], Service) ∷
    (codes "ether" ∷ codes "saddr" ∷ [], Ether) ∷
    (codes "ether" ∷ codes "daddr" ∷ [], Ether) ∷
    (codes "meta" ∷ codes "mark" ∷ [], Mark) ∷
    (codes "mark" ∷ [], Mark) ∷
    (codes "ct" ∷ codes "mark" ∷ [], Mark) ∷
    (codes "arp" ∷ codes "saddr" ∷ codes "ip" ∷ [], Ipv4) ∷
    (codes "arp" ∷ codes "saddr" ∷ codes "ether" ∷ [], Ether) ∷
    (codes "arp" ∷ codes "daddr" ∷ codes "ip" ∷ [], Ipv4) ∷
    (codes "arp" ∷ codes "daddr" ∷ codes "ether" ∷ [], Ether) ∷
    (codes "ct" ∷ codes "original" ∷ codes "ip" ∷ codes "saddr" ∷ [], Ipv4) ∷
    (codes "ct" ∷ codes "original" ∷ codes "ip" ∷ codes "daddr" ∷ [], Ipv4) ∷
    (codes "ct" ∷ codes "original" ∷ codes "ip6" ∷ codes "saddr" ∷ [], Ipv6) ∷
    (codes "ct" ∷ codes "original" ∷ codes "ip6" ∷ codes "daddr" ∷ [], Ipv6) ∷
    (codes "ct" ∷ codes "original" ∷ codes "protocol" ∷ [], Proto) ∷
    (codes "ct" ∷ codes "reply" ∷ codes "ip" ∷ codes "saddr" ∷ [], Ipv4) ∷
    (codes "ct" ∷ codes "reply" ∷ codes "ip" ∷ codes "daddr" ∷ [], Ipv4) ∷
    (codes "ct" ∷ codes "reply" ∷ codes "ip6" ∷ codes "saddr" ∷ [], Ipv6) ∷
    (codes "ct" ∷ codes "reply" ∷ codes "ip6" ∷ codes "daddr" ∷ [], Ipv6) ∷
    (codes "ct" ∷ codes "reply" ∷ codes "protocol" ∷ [], Proto) ∷
    []

expressions-known : map (λ e. kind_by_words e.0) expressions ≡ map (λ e. Some e.1) expressions
expressions-known = refl

-- expressions of other types, and words that are none
abbrev other_expressions : List (List (List ℕ))
other_expressions =
    (codes "iifname" ∷ []) ∷
    (codes "meta" ∷ codes "iifname" ∷ []) ∷
    (codes "icmp" ∷ codes "type" ∷ []) ∷
    (codes "ether" ∷ codes "type" ∷ []) ∷
    (codes "meta" ∷ codes "protocol" ∷ []) ∷
    (codes "ct" ∷ codes "state" ∷ []) ∷
    (codes "ct" ∷ codes "protocol" ∷ []) ∷
    (codes "ct" ∷ codes "original" ∷ codes "proto-dst" ∷ []) ∷
    (codes "ct" ∷ codes "original" ∷ codes "l3proto" ∷ []) ∷
    (codes "ct" ∷ codes "original" ∷ codes "mark" ∷ []) ∷
    (codes "ct" ∷ codes "original" ∷ codes "saddr" ∷ []) ∷
    (codes "ip6" ∷ codes "protocol" ∷ []) ∷
    (codes "ip" ∷ codes "nexthdr" ∷ []) ∷
    (codes "arp" ∷ codes "operation" ∷ []) ∷
    (codes "arp" ∷ codes "sport" ∷ []) ∷
    (codes "tcp" ∷ codes "flags" ∷ []) ∷
    (codes "udp" ∷ codes "saddr" ∷ []) ∷
    (codes "ip" ∷ []) ∷
    (codes "ip" ∷ codes "saddr" ∷ codes "daddr" ∷ []) ∷
    (codes "ct" ∷ []) ∷
    (codes "arp" ∷ codes "saddr" ∷ []) ∷
    (codes "mark" ∷ codes "mark" ∷ []) ∷
    (codes "ipv4_addr" ∷ []) ∷
    []

other_expressions-unknown : map kind_by_words other_expressions ≡ map (λ ws. None) other_expressions
other_expressions-unknown = refl

-- Four addresses of IPv6 fill a key, and a mark doesn't fit after them.
abbrev four_ipv6 : List Kind
four_ipv6 = Ipv6 ∷ Ipv6 ∷ Ipv6 ∷ Ipv6 ∷ []

no_room : expression_behind four_ipv6 parts.Ct (codes "mark") ≡ None
no_room = refl

begun_without_room : expression_behind four_ipv6 parts.Empty (codes "ct") ≡ Some parts.Ct
begun_without_room = refl
