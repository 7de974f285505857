-- Values and intervals as nft's JSON has them: libnftables-json(5), "STRINGS", "NUMBERS", "CONCAT", "PREFIX" and "RANGE".
use Rattle.std.specs.Prelude.{ℕ, ◌-◌, ◌==◌, ◌&&◌, List, [], ◌∷◌, map, codes, decimal, bytes_eq, if◌then◌else◌}
use Rattle.std.specs.List.{zip}
use Rattle.std.specs.Str.Lossy.{utf8_lossy}
use Rattle.serde_json.specs.Data.{Data, number, unsigned, string, array, object, member, no_members}
use Rattle.serde_json.specs.View.{items_of}
use Rattle.set_model.specs.declared.kind.Interval.{Interval}
use Rattle.set_model.specs.declared.kind.Kind.{Kind}
use Rattle.set_model.specs.declared.kind.Kind.TheVariants.{Ipv4, Ipv6, Ether, Proto, Service, Mark}
use Rattle.set_model.specs.Kind.{bits_of}
use Rattle.addr_text.specs.Written.{value_text, fixed_bits, is_address, is_whole_block}

-- Bytes as a JSON string. U+FFFD takes the place of bytes that are no UTF-8, since JSON has no others.
abbrev pub text_data : List ℕ → Data
text_data bytes = string (utf8_lossy bytes)

abbrev pub number_data : ℕ → Data
number_data n = number (unsigned n)

abbrev pub list_data : List Data → Data
list_data ds = array (items_of ds)

-- an object whose one member has this key
abbrev pub named : List ℕ → Data → Data
named key d = object (member key d no_members)

-- a number if the text is its digits, and else the text
abbrev pub number_or_text : ℕ → List ℕ → Data
number_or_text n text = if bytes_eq text (decimal n) then number_data n else text_data text

-- A value: an address as a string, a protocol by its name if it has one, and every other value as a number.
abbrev pub value_data : Kind → ℕ → Data
value_data Ipv4 n = text_data (value_text Ipv4 n)
value_data Ipv6 n = text_data (value_text Ipv6 n)
value_data Ether n = text_data (value_text Ether n)
value_data Proto n = number_or_text n (value_text Proto n)
value_data Service n = number_data n
value_data Mark n = number_data n

-- An end of a range. A protocol is a number there, since nft wants a number.
abbrev pub end_data : Kind → ℕ → Data
end_data Ipv4 n = value_data Ipv4 n
end_data Ipv6 n = value_data Ipv6 n
end_data Ether n = value_data Ether n
end_data Proto n = number_data n
end_data Service n = number_data n
end_data Mark n = number_data n

-- a block as its low end and the number of fixed bits
abbrev pub prefix_data : Kind → Interval → Data
prefix_data kind part =
    named (codes "prefix") (object (member (codes "addr") (value_data kind part.low) (member (codes "len") (number_data (fixed_bits (bits_of kind) (part.high - part.low))) no_members)))

-- an interval as its two ends
abbrev pub range_data : Kind → Interval → Data
range_data kind part = named (codes "range") (list_data (end_data kind part.low ∷ end_data kind part.high ∷ []))

-- An interval: a single value, a block of addresses, or a range.
abbrev pub interval_data : Kind → Interval → Data
interval_data kind part =
    if part.low == part.high then value_data kind part.low
    else (if is_address kind && is_whole_block kind part then prefix_data kind part else range_data kind part)

-- One interval is itself, and several are a concatenation.
abbrev pub concat_data : List Data → Data
concat_data [] = named (codes "concat") (list_data [])
concat_data (d ∷ []) = d
concat_data (d ∷ e ∷ ds) = named (codes "concat") (list_data (d ∷ e ∷ ds))

-- The intervals of an element, each of its field's kind.
abbrev pub intervals_data : List Kind → List Interval → Data
intervals_data kinds parts = concat_data (map (λ p. interval_data p.0 p.1) (zip kinds parts))
