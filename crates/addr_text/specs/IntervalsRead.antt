-- The interval of a text, computed.
use Rattle.std.specs.Prelude.{ℕ, Bool, not, ◌&&◌, List, [], ◌∷◌, length, take, drop, Option, Some, None, option_map, unwrap_or, find, codes, nat_eq, ◌==◌, nat_le, if◌then◌else◌}
use Rattle.std.specs.List.{prefix_len, starts_with}
use Rattle.set_model.specs.Kind.{bits_of}
use Rattle.set_model.specs.declared.kind.Kind.{Kind}
use Rattle.set_model.specs.declared.kind.Kind.TheVariants.{Ipv4, Ipv6, Ether, Proto, Service, Mark}
use Rattle.set_model.specs.declared.kind.Interval.{Interval}
use Rattle.addr_text.specs.Intervals.{block_of}
use Rattle.addr_text.specs.ValuesRead.{◌>>=◌, number_of, value_of}

-- a byte that is neither `-` nor `/`
abbrev pub is_plain : ℕ → Bool
is_plain byte = not (byte == 45) && not (byte == 47)

-- how many bytes come before the first `-` or `/`
abbrev pub plain_len : List ℕ → ℕ
plain_len text = prefix_len is_plain text

-- the protocol names that contain a `-`
unfoldable pub dashed_names : List (List ℕ)
dashed_names =
    codes "xns-idp"
    ∷ codes "iso-tp4"
    ∷ codes "idpr-cmtp"
    ∷ codes "ipv6-route"
    ∷ codes "ipv6-frag"
    ∷ codes "ipv6-icmp"
    ∷ codes "ipv6-nonxt"
    ∷ codes "ipv6-opts"
    ∷ codes "mobility-header"
    ∷ codes "mpls-in-ip"
    ∷ []

-- the text begins with the name, and then ends or goes on with a `-` or a `/`
abbrev pub stands_first : List ℕ → List ℕ → Bool
stands_first text name = starts_with nat_eq text name && (plain_len (drop (length name) text) == 0)

-- the end of a protocol name that contains a `-` and begins the text
unfoldable pub dashed_end : List ℕ → Option ℕ
dashed_end text = option_map length (find (stands_first text) dashed_names)

-- the end of the text's first value: of such a name, or else the place of the first `-` or `/`
unfoldable pub first_end : Kind → List ℕ → ℕ
first_end Proto text = unwrap_or (dashed_end text) (plain_len text)
first_end Ipv4 text = plain_len text
first_end Ipv6 text = plain_len text
first_end Ether text = plain_len text
first_end Service text = plain_len text
first_end Mark text = plain_len text

-- a block, by the text after the `/`
unfoldable pub prefix_of : Kind → ℕ → List ℕ → Option Interval
prefix_of kind value digits = do
  fixed ← number_of (bits_of kind) digits
  Some (block_of (bits_of kind) fixed value)

-- a range, by the text after the `-`
unfoldable pub range_of : Kind → ℕ → List ℕ → Option Interval
range_of kind low behind = do
  high ← value_of kind behind
  if nat_le low high then Some (record { low = low; high = high }) else None

-- the interval, by the text after its first value
unfoldable pub interval_behind : Kind → ℕ → List ℕ → Option Interval
interval_behind kind value [] = Some (record { low = value; high = value })
interval_behind kind value (mark ∷ behind) =
    if mark == 47 then prefix_of kind value behind
    else (if mark == 45 then range_of kind value behind else None)

-- the interval that the text means
unfoldable pub interval_of : Kind → List ℕ → Option Interval
interval_of kind text =
    let end = first_end kind text in
    value_of kind (take end text) >>= λ value. interval_behind kind value (drop end text)
