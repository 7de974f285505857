-- Sets, their elements and their tables as nft's JSON has them: libnftables-json(5), "TABLE", "SET" and "ELEM". Times are in whole
-- seconds there, and nft reads a time of 0 as none.
use Rattle.std.specs.Prelude.{ℕ, ◌-◌, ◌/◌, Bool, true, nat_lt, if◌then◌else◌, List, [], ◌∷◌, ◌++◌, filter, map, flat_map, max, Option, Some, None, unwrap_or, option_map, codes}
use Rattle.std.specs.List.{zip}
use Rattle.serde_json.specs.Data.{Data, Members, object, member, no_members, put}
use Rattle.set_model.specs.declared.element.Element.{Element}
use Rattle.set_model.specs.declared.kind.Kind.{Kind}
use Rattle.set_model.specs.declared.script.SetDecl.{SetDecl}
use Rattle.set_model.specs.SetState.{State}
use Rattle.set_model.specs.Text.{family_text}
use Rattle.set_report.specs.KindText.{kind_text}
use Rattle.set_report.specs.ListText.{gives_life, flag_if, first_sets, sets_beside}
use Rattle.list_json.specs.JsonValues.{text_data, number_data, list_data, named, intervals_data}

-- whole seconds, rounded down
abbrev pub seconds : ℕ → ℕ
seconds ms = ms / 1_000

-- the seconds that an element has left
abbrev pub seconds_left : ℕ → ℕ → ℕ
seconds_left now expiry = seconds (expiry - now)

-- The seconds of a set's timeout. A shorter timeout that isn't 0 counts as a second, since nft reads 0 as no timeout.
abbrev pub timeout_seconds : ℕ → ℕ
timeout_seconds ms = if nat_lt 0 ms then max 1 (seconds ms) else 0

-- the seconds that a set gives to an element that names none
abbrev pub given_seconds : SetDecl → ℕ
given_seconds d = unwrap_or (option_map timeout_seconds d.timeout) 0

-- An element lasts: it never expires, or it has a second left.
abbrev pub lasts : ℕ → Element → Bool
lasts now e = elim e.expiry [ Some expiry ↦ nat_lt 0 (seconds_left now expiry) | None ↦ true ]

-- The members with the seconds that an element has left. They are its timeout, too, if its set gives fewer: the kernel refuses
-- an element that has more left than its timeout.
abbrev pub with_left : SetDecl → ℕ → Members → Members
with_left d left ms = put (codes "expires") (number_data left) (if nat_lt (given_seconds d) left then put (codes "timeout") (number_data left) ms else ms)

-- The members with the time that an element has left. An element that never expires says so if its set would give it a life.
abbrev pub with_life : SetDecl → ℕ → Option ℕ → Members → Members
with_life d now (Some expiry) ms = with_left d (seconds_left now expiry) ms
with_life d now None ms = if gives_life d then put (codes "timeout") (number_data 0) ms else ms

-- the members with a comment, if there is one
abbrev pub with_comment : List ℕ → Members → Members
with_comment [] ms = ms
with_comment (byte ∷ bytes) ms = put (codes "comment") (text_data (byte ∷ bytes)) ms

-- what is said of an element beside its intervals
abbrev pub beside_intervals : SetDecl → ℕ → Element → Members
beside_intervals d now e = with_comment e.comment (with_life d now e.expiry no_members)

-- intervals alone if nothing is beside them, and else an object with both
abbrev pub with_intervals : Data → Members → Data
with_intervals intervals no_members = intervals
with_intervals intervals (member k d ms) = named (codes "elem") (object (put (codes "val") intervals (member k d ms)))

-- An element: its intervals, the time that it has left, and its comment.
abbrev pub element_data : SetDecl → ℕ → Element → Data
element_data d now e = with_intervals (intervals_data d.kinds e.parts) (beside_intervals d now e)

-- a kind by its name
abbrev pub kind_data : Kind → Data
kind_data kind = text_data (kind_text kind)

-- the kind of the only field, or a list of kinds
abbrev pub type_data : List Data → Data
type_data [] = list_data []
type_data (d ∷ []) = d
type_data (d ∷ e ∷ ds) = list_data (d ∷ e ∷ ds)

-- a list at a key, if it has items
abbrev pub with_list : List ℕ → List Data → Members → Members
with_list key [] ms = ms
with_list key (d ∷ ds) ms = put key (list_data (d ∷ ds)) ms

-- a number at a key, if there is one
abbrev pub with_number : List ℕ → Option ℕ → Members → Members
with_number key None ms = ms
with_number key (Some n) ms = put key (number_data n) ms

-- the flags of a set that nft knows, in this order
abbrev pub flags_data : SetDecl → List Data
flags_data d = map text_data (flag_if d.interval (codes "interval") ++ flag_if d.timed (codes "timeout"))

-- where a set is: the family and the name of its table
abbrev pub table_place : List ℕ → SetDecl → Members
table_place key d = put key (text_data d.table) (put (codes "family") (text_data (family_text d.family)) no_members)

-- the members with a set's name and its type
abbrev pub with_type : SetDecl → Members → Members
with_type d ms = put (codes "type") (type_data (map kind_data d.kinds)) (put (codes "name") (text_data d.name) ms)

-- the members with a set's size, its flags and its timeout in seconds, as far as it has them
abbrev pub with_options : SetDecl → Members → Members
with_options d ms =
    with_number (codes "timeout") (option_map timeout_seconds d.timeout) (with_list (codes "flags") (flags_data d) (with_number (codes "size") d.size ms))

-- a set without its elements
abbrev pub declaration : SetDecl → Members
declaration d = with_options d (with_type d (table_place (codes "table") d))

-- the elements that last, in their order
abbrev pub elements_data : SetDecl → ℕ → List Element → List Data
elements_data d now es = map (element_data d now) (filter (lasts now) es)

-- A declared set with these elements, at a moment in milliseconds. nft wants no list of elements if there are none.
abbrev pub declared_set_data : ℕ → SetDecl → List Element → Data
declared_set_data now d es = named (codes "set") (object (with_list (codes "elem") (elements_data d now es) (declaration d)))

-- a declared set in this state
abbrev pub set_data : ℕ → SetDecl × State → Data
set_data now (d, s) = declared_set_data now d s.elements

-- The table of a set.
abbrev pub table_data : SetDecl → Data
table_data d = named (codes "table") (object (table_place (codes "name") d))

-- the table of a set, and then its sets
abbrev pub table_and_sets : List (SetDecl × State) → ℕ → SetDecl → List Data
table_and_sets sets now d = table_data d ∷ map (set_data now) (sets_beside d sets)

-- the version of the JSON's form
abbrev pub metainfo : Data
metainfo = named (codes "metainfo") (named (codes "json_schema_version") (number_data 1))

-- The declared sets with these states at a moment, as nft lists a ruleset: each table with its sets after it, in the order of
-- the tables' first declared sets.
abbrev pub ruleset_data : List SetDecl → List State → ℕ → Data
ruleset_data schema sets now = named (codes "nftables") (list_data (metainfo ∷ flat_map (table_and_sets (zip schema sets) now) (first_sets schema)))
