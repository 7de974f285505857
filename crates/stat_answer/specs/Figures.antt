-- What is counted of a set: its elements by their expiries, and the rules and bytes of its fields.
use Rattle.std.specs.Prelude.{ℕ, ◌+◌, ◌*◌, ◌/◌, ◌^◌, Bool, ◌&&◌, if◌then◌else◌, List, length, map, filter, min, Option, Some, None, is_some, slice_get}
use Rattle.std.specs.List.{fold, sum_by, range_with_len}
use Rattle.set_model.specs.declared.element.Element.{Element}
use Rattle.set_model.specs.declared.kind.Kind.{Kind}
use Rattle.set_model.specs.Kind.{bits_of}
use Rattle.set_model.specs.Expiry.{live}
use Rattle.set_model.specs.SetState.{field_rules}
use Rattle.lookup_table.specs.Width.{width_of}
use Rattle.stat_answer.specs.declared.ages.Ages.{Ages}
use Rattle.stat_answer.specs.declared.figures.FieldFigures.{FieldFigures}

-- An element is live at a moment, and expires at a later one.
abbrev pub is_expiring : ℕ → Element → Bool
is_expiring now e = live e now && is_some e.expiry

-- the earlier of two moments, of those that there are
abbrev pub earlier : Option ℕ → Option ℕ → Option ℕ
earlier None other = other
earlier (Some moment) None = Some moment
earlier (Some moment) (Some other) = Some (min moment other)

-- the elements that are live and expire later: how many they are, and the earliest of their expiries
abbrev pub ages_of : ℕ → List Element → Ages
ages_of now es =
    let expiring = filter (is_expiring now) es in
    record { expiring = length expiring; next = fold (λ next e. earlier next e.expiry) None expiring }

-- the same with one element more
abbrev pub aged : ℕ → Ages → Element → Ages
aged now ages e = if is_expiring now e then record { expiring = ages.expiring + 1; next = earlier ages.next e.expiry } else ages

-- The bytes of a field's buckets: one bucket for each group and value, of whole words of 64 rules.
abbrev pub bucket_bytes : ℕ → ℕ → ℕ → ℕ
bucket_bytes width bits rules = bits / width * 2 ^ width * 8 * ((rules + 63) / 64)

-- the figures of a field of so many bits with so many rules
abbrev pub figures_of : ℕ → ℕ → FieldFigures
figures_of bits rules = let width = width_of bits rules in record { width = width; rules = rules; bytes = bucket_bytes width bits rules }

-- the bits of a kind, if there is one
abbrev pub kind_bits : Option Kind → ℕ
kind_bits None = 0
kind_bits (Some kind) = bits_of kind

-- the figures of field f of these elements
abbrev pub field_figures : List Kind → List Element → ℕ → FieldFigures
field_figures kinds es f = figures_of (kind_bits (slice_get kinds f)) (length (field_rules kinds f es))

-- the bytes of all fields
abbrev pub all_bytes : List Kind → List Element → ℕ
all_bytes kinds es = sum_by (λ figures. figures.bytes) (map (field_figures kinds es) (range_with_len 0 (length kinds)))
