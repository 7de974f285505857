-- Sets as nft(8) lists them. Such a text can be read as a script again.
use Rattle.std.specs.Prelude.{ℕ, ◌-◌, Bool, true, false, ◌&&◌, not, nat_lt, if◌then◌else◌, List, [], ◌∷◌, ◌++◌, filter, Option, Some, None, codes, decimal, bytes_eq}
use Rattle.std.specs.List.{zip, join_by}
use Rattle.set_model.specs.declared.element.Element.{Element}
use Rattle.set_model.specs.declared.script.SetDecl.{SetDecl}
use Rattle.set_model.specs.SetState.{State}
use Rattle.set_model.specs.Text.{family_text}
use Rattle.addr_text.specs.Written.{time_text}
use Rattle.element_text.specs.ElementText.{intervals_text, comment_text}
use Rattle.set_report.specs.KindText.{kind_text}

-- a set gives its elements a life if they name none
abbrev pub gives_life : SetDecl → Bool
gives_life d = elim d.timeout [ Some t ↦ nat_lt 0 t | None ↦ false ]

-- The time until the expiry, or no time if it has passed. If an element never expires and its set would
-- give it a life, the text says so.
abbrev pub expiry_text : SetDecl → ℕ → Option ℕ → List ℕ
expiry_text d now (Some expiry) = codes " expires " ++ time_text (expiry - now)
expiry_text d now None = if gives_life d then codes " timeout 0s" else []

-- An element: its intervals, the time until it expires, and its comment.
abbrev pub element_text : SetDecl → ℕ → Element → List ℕ
element_text d now e = intervals_text d.kinds e.parts ++ expiry_text d now e.expiry ++ comment_text e.comment

-- The items of a set, each on a line of its own.
abbrev pub listed_item : List ℕ → List ℕ
listed_item item = codes "\t\t" ++ item ++ codes "\n"

abbrev pub type_line : SetDecl → List ℕ
type_line d = listed_item (codes "type " ++ join_by kind_text (codes " . ") d.kinds)

-- the greatest number of elements, if there is one
abbrev pub size_line : Option ℕ → List ℕ
size_line None = []
size_line (Some n) = listed_item (codes "size " ++ decimal n)

abbrev pub flag_if : Bool → List ℕ → List (List ℕ)
flag_if true word = word ∷ []
flag_if false word = []

-- the flags that a set has, in this order
abbrev pub flag_words : SetDecl → List (List ℕ)
flag_words d = flag_if d.interval (codes "interval") ++ flag_if d.timed (codes "timeout") ++ flag_if d.disjoint (codes "disjoint")

-- the flags with `,` between them, if there are any
abbrev pub flags_line : List (List ℕ) → List ℕ
flags_line [] = []
flags_line (word ∷ words) = listed_item (codes "flags " ++ join_by (λ w. w) (codes ",") (word ∷ words))

-- the life of elements that name none, if there is one
abbrev pub timeout_line : Option ℕ → List ℕ
timeout_line None = []
timeout_line (Some t) = listed_item (codes "timeout " ++ time_text t)

-- the elements one below another, if there are any
abbrev pub elements_line : SetDecl → ℕ → List Element → List ℕ
elements_line d now [] = []
elements_line d now (e ∷ es) = listed_item (codes "elements = { " ++ join_by (element_text d now) (codes ",\n\t\t\t     ") (e ∷ es) ++ codes " }")

-- the items of a set, in this order
abbrev pub items_text : ℕ → SetDecl → State → List ℕ
items_text now d s = type_line d ++ size_line d.size ++ flags_line (flag_words d) ++ timeout_line d.timeout ++ elements_line d now s.elements

-- A set with its items.
abbrev pub listed_set : ℕ → SetDecl × State → List ℕ
listed_set now (d, s) = codes "\tset " ++ d.name ++ codes " {\n" ++ items_text now d s ++ codes "\t}\n"

-- Two sets are in one table: they have the same family and the same table's name.
abbrev pub same_table : SetDecl → SetDecl → Bool
same_table a b = bytes_eq (family_text a.family) (family_text b.family) && bytes_eq a.table b.table

-- For each table, the set that was declared first.
abbrev pub first_sets : List SetDecl → List SetDecl
first_sets [] = []
first_sets (d ∷ schema) = d ∷ filter (λ other. not (same_table d other)) (first_sets schema)

-- the sets of a table, in the order of their declarations
abbrev pub sets_beside : SetDecl → List (SetDecl × State) → List (SetDecl × State)
sets_beside d sets = filter (λ p. same_table d p.0) sets

-- The table of a set: its sets with a blank line between two of them.
abbrev pub listed_table : List (SetDecl × State) → ℕ → SetDecl → List ℕ
listed_table sets now d =
    codes "table " ++ family_text d.family ++ codes " " ++ d.table ++ codes " {\n"
    ++ join_by (listed_set now) (codes "\n") (sets_beside d sets)
    ++ codes "}\n"

-- The declared sets with these states, listed at a moment: the tables in the order of their first declared sets, with a
-- blank line between two of them.
abbrev pub list_text : List SetDecl → List State → ℕ → List ℕ
list_text schema sets now = join_by (listed_table (zip schema sets) now) (codes "\n") (first_sets schema)
