-- The tables of sets as text: which rules agree with which values of a field's bits, and to what the
-- rules lead.
use Rattle.std.specs.Prelude.{ℕ, ◌+◌, ◌*◌, ◌/◌, ◌^◌, Bool, not, ◌==◌, if◌then◌else◌, List, [], ◌∷◌, ◌++◌, length, take, drop, map, filter, zip, Some, codes, decimal}
use Rattle.std.specs.List.{flat_map, list_any, range_with_len, enumerate_from}
use Rattle.std.specs.Cmp.Lexicographic.{pointwise}
use Rattle.addr_text.specs.Written.{hex_text}
use Rattle.field_groups.specs.Groups.{agrees}
use Rattle.lookup_table.specs.Width.{width_of}
use Rattle.set_model.specs.declared.block.Block.{Block}
use Rattle.set_model.specs.declared.element.Element.{Element}
use Rattle.set_model.specs.declared.kind.Kind.{Kind}
use Rattle.set_model.specs.declared.script.SetDecl.{SetDecl}
use Rattle.set_model.specs.Kind.{bits_of}
use Rattle.set_model.specs.SetState.{State, field_rules}
use Rattle.set_model.specs.Text.{line_feed, numbered, set_text}
use Rattle.set_tables.specs.declared.Span.{Span}
use Rattle.set_tables.specs.declared.End.{End}
use Rattle.set_tables.specs.Tables.{field_spans, last_ends}
use Rattle.set_report.specs.KindText.{kind_text}

-- the number with these bits, the least significant first
abbrev pub bits_number : List Bool → ℕ
bits_number [] = 0
bits_number (bit ∷ bits) = (if bit then 1 else 0) + 2 * bits_number bits

-- byte j of a bitmap: its bits from bit 8 * j on
abbrev pub byte_of : List Bool → ℕ → ℕ
byte_of bitmap j = bits_number (take 8 (drop (8 * j) bitmap))

-- a bitmap in hexadecimal, byte by byte, two digits a byte
abbrev pub bitmap_text : List Bool → List ℕ
bitmap_text bitmap = flat_map (λ j. hex_text 2 (byte_of bitmap j)) (range_with_len 0 ((length bitmap + 7) / 8))

-- two bits are both set, or both not
abbrev pub same_bit : Bool → Bool → Bool
same_bit a b = if a then b else not b

-- two bitmaps are the same, bit by bit
abbrev pub same_bitmap : List Bool → List Bool → Bool
same_bitmap a b = pointwise same_bit a b

-- the buckets of a group from one value to another, both included, which all have this bitmap
pub record BucketRun : Type 0 where
  pub from : ℕ
  pub to : ℕ
  pub bitmap : List Bool

-- One more bucket before runs. If it has the bitmap of the first run, it joins that run.
abbrev pub with_bucket : ℕ → List Bool → List BucketRun → List BucketRun
with_bucket v bitmap [] = record { from = v; to = v; bitmap = bitmap } ∷ []
with_bucket v bitmap (run ∷ runs) =
    if same_bitmap bitmap run.bitmap
    then record { from = v; to = run.to; bitmap = bitmap } ∷ runs
    else record { from = v; to = v; bitmap = bitmap } ∷ run ∷ runs

-- The longest runs of neighbouring buckets with the same bitmap. The first bucket is the one of value
-- v.
abbrev pub runs_from : ℕ → List (List Bool) → List BucketRun
runs_from v [] = []
runs_from v (bitmap ∷ bitmaps) = with_bucket v bitmap (runs_from (v + 1) bitmaps)

-- some bit is set
abbrev pub is_any_set : List Bool → Bool
is_any_set bitmap = list_any (λ bit. bit) bitmap

-- the line of a run in group g
abbrev pub run_line : ℕ → BucketRun → List ℕ
run_line g run = numbered (codes "row") g ++ codes " " ++ decimal run.from ++ codes "-" ++ decimal run.to ++ codes " " ++ bitmap_text run.bitmap ++ line_feed

-- the lines of runs whose bitmap isn't all zeros
abbrev pub runs_text : ℕ → List BucketRun → List ℕ
runs_text g runs = flat_map (run_line g) (filter (λ run. is_any_set run.bitmap) runs)

-- The bitmaps of a group's buckets, value by value. Bit r of value v is set if v agrees with rule r on
-- the bits of the group that the rule fixes.
abbrev pub bitmaps : ℕ → ℕ → List Block → ℕ → List (List Bool)
bitmaps width bits rules g = map (λ v. map (λ rule. agrees width bits rule g v) rules) (range_with_len 0 (2 ^ width))

-- the lines of all groups, in groups of `width` bits
abbrev pub groups_text : ℕ → ℕ → List Block → List ℕ
groups_text width bits rules = flat_map (λ g. runs_text g (runs_from 0 (bitmaps width bits rules g))) (range_with_len 0 (bits / width))

-- the line of a rule that leads to rules of the next field
abbrev pub span_text : Span → List ℕ
span_text span = numbered (codes "map") span.first ++ codes " " ++ decimal span.count ++ line_feed

-- the line of a rule that leads to an element, by the element's place
abbrev pub end_text : End → List ℕ
end_text end = numbered (codes "end") end.place ++ line_feed

-- a line for each rule of field f: the rules to which it leads, or its element in the last field
abbrev pub ways_text : List Kind → List Element → ℕ → List ℕ
ways_text kinds elements f =
    if f + 1 == length kinds
    then flat_map end_text (last_ends kinds elements)
    else flat_map span_text (field_spans kinds f elements)

-- the first line of field f
abbrev pub heading_text : ℕ → Kind → ℕ → ℕ → List ℕ
heading_text f kind width rules = numbered (codes "field") f ++ codes " " ++ kind_text kind ++ numbered (codes " width") width ++ numbered (codes " rules") rules ++ line_feed

-- field f, which is of a kind and has these rules: eight bits to a group, or four if its table would be
-- too large
abbrev pub table_text : ℕ → Kind → List Block → List ℕ
table_text f kind rules =
    let width = width_of (bits_of kind) (length rules) in
    heading_text f kind width (length rules) ++ groups_text width (bits_of kind) rules

-- field f of these elements: its table, and then a line for each rule
abbrev pub field_text : List Kind → List Element → ℕ × Kind → List ℕ
field_text kinds elements field = table_text field.0 field.1 (field_rules kinds field.0 elements) ++ ways_text kinds elements field.0

-- a set, field by field
abbrev pub set_tables_text : SetDecl → State → List ℕ
set_tables_text d s =
    codes "set " ++ set_text (Some d) ++ line_feed
    ++ flat_map (field_text s.kinds s.elements) (enumerate_from 0 s.kinds)

-- The tables of the declared sets with these states.
unfoldable pub dump_text : List SetDecl → List State → List ℕ
dump_text schema sets = flat_map (λ set. set_tables_text set.0 set.1) (zip schema sets)
