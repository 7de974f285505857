-- The expressions of `typeof` whose values are of a kind, word by word.
use Rattle.std.specs.Prelude.{ℕ, List, Bool, true, ◌||◌, Option, Some, None, codes, cond, bytes_eq, if◌then◌else◌}
use Rattle.set_model.specs.declared.kind.Kind.{Kind}
use Rattle.set_model.specs.declared.kind.Kind.TheVariants as kinds
use Rattle.set_script.specs.declared.expression.ExpressionWord.{ExpressionWord}
use Rattle.set_script.specs.declared.expression.ExpressionWord.TheVariants as words
use Rattle.set_script.specs.declared.expression.Expression.{Expression}
use Rattle.set_script.specs.declared.expression.Expression.TheVariants as parts
use Rattle.set_script.specs.Names.{has_room}

-- the words of expressions
abbrev pub expression_word_of : List ℕ → Option ExpressionWord
expression_word_of t =
    if bytes_eq t (codes "ip") then Some words.Ip
    else if bytes_eq t (codes "ip6") then Some words.Ip6
    else if bytes_eq t (codes "meta") then Some words.Meta
    else if bytes_eq t (codes "ct") then Some words.Ct
    else if bytes_eq t (codes "ether") then Some words.Ether
    else if bytes_eq t (codes "arp") then Some words.Arp
    else if bytes_eq t (codes "tcp") || bytes_eq t (codes "udp") || bytes_eq t (codes "sctp") || bytes_eq t (codes "dccp") || bytes_eq t (codes "udplite") || bytes_eq t (codes "th") then Some words.Transport
    else if bytes_eq t (codes "saddr") || bytes_eq t (codes "daddr") then Some words.Address
    else if bytes_eq t (codes "sport") || bytes_eq t (codes "dport") then Some words.Port
    else if bytes_eq t (codes "protocol") then Some words.Protocol
    else if bytes_eq t (codes "nexthdr") then Some words.Nexthdr
    else if bytes_eq t (codes "l4proto") then Some words.L4proto
    else if bytes_eq t (codes "mark") then Some words.Mark
    else if bytes_eq t (codes "original") || bytes_eq t (codes "reply") then Some words.Direction
    else None

abbrev pub whole : Kind → Option Expression
whole kind = Some (parts.Whole kind)

-- after nothing
abbrev pub begun : ExpressionWord → Option Expression
begun words.Ip = Some parts.Ip
begun words.Ip6 = Some parts.Ip6
begun words.Meta = Some parts.Meta
begun words.Ct = Some parts.Ct
begun words.Ether = Some parts.Ether
begun words.Arp = Some parts.Arp
begun words.Transport = Some parts.Transport
begun words.Mark = whole kinds.Mark
begun _ = None

-- an address of this kind
abbrev pub address : Kind → ExpressionWord → Option Expression
address kind words.Address = whole kind
address kind _ = None

-- after `ip`
abbrev pub ip_field : ExpressionWord → Option Expression
ip_field words.Address = whole kinds.Ipv4
ip_field words.Protocol = whole kinds.Proto
ip_field _ = None

-- after `ip6`
abbrev pub ip6_field : ExpressionWord → Option Expression
ip6_field words.Address = whole kinds.Ipv6
ip6_field words.Nexthdr = whole kinds.Proto
ip6_field _ = None

-- after `meta`
abbrev pub meta_field : ExpressionWord → Option Expression
meta_field words.L4proto = whole kinds.Proto
meta_field words.Mark = whole kinds.Mark
meta_field _ = None

-- after a transport protocol
abbrev pub port : ExpressionWord → Option Expression
port words.Port = whole kinds.Service
port _ = None

-- after `ct`
abbrev pub ct_field : ExpressionWord → Option Expression
ct_field words.Mark = whole kinds.Mark
ct_field words.Direction = Some parts.CtDirected
ct_field _ = None

-- after `ct` and a direction
abbrev pub directed_field : ExpressionWord → Option Expression
directed_field words.Ip = Some parts.CtIp
directed_field words.Ip6 = Some parts.CtIp6
directed_field words.Protocol = whole kinds.Proto
directed_field _ = None

-- after `arp`
abbrev pub arp_field : ExpressionWord → Option Expression
arp_field words.Address = Some parts.ArpAddress
arp_field _ = None

-- after `arp`, and `saddr` or `daddr`
abbrev pub arp_address : ExpressionWord → Option Expression
arp_address words.Ip = whole kinds.Ipv4
arp_address words.Ether = whole kinds.Ether
arp_address _ = None

-- what has been read after one more word
abbrev pub one_further : Expression → ExpressionWord → Option Expression
one_further parts.Empty w = begun w
one_further parts.Ip w = ip_field w
one_further parts.Ip6 w = ip6_field w
one_further parts.Meta w = meta_field w
one_further parts.Ether w = address kinds.Ether w
one_further parts.Transport w = port w
one_further parts.Ct w = ct_field w
one_further parts.CtDirected w = directed_field w
one_further parts.CtIp w = address kinds.Ipv4 w
one_further parts.CtIp6 w = address kinds.Ipv6 w
one_further parts.Arp w = arp_field w
one_further parts.ArpAddress w = arp_address w
one_further (parts.Whole kind) w = None

-- the same after a word of an expression, if it is one
abbrev pub grown_by : Expression → Option ExpressionWord → Option Expression
grown_by part None = None
grown_by part (Some w) = one_further part w

abbrev pub grown : Expression → List ℕ → Option Expression
grown part t = grown_by part (expression_word_of t)

-- the kind of an expression of which all has been read
abbrev pub kind_of_whole : Expression → Option Kind
kind_of_whole (parts.Whole kind) = Some kind
kind_of_whole _ = None

-- whether a key has room for a kind, if there is one, after these
abbrev pub has_room_if : List Kind → Option Kind → Bool
has_room_if ks None = true
has_room_if ks (Some kind) = has_room ks kind

abbrev pub roomy : List Kind → Option Expression → Option Expression
roomy ks None = None
roomy ks (Some part) = cond (has_room_if ks (kind_of_whole part)) (Some part) None

-- What has been read after a word. The key has room for the expression's kind after these.
abbrev pub expression_behind : List Kind → Expression → List ℕ → Option Expression
expression_behind ks part t = roomy ks (grown part t)
