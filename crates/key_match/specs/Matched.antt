-- What is written of a packet and the elements of its set.
use Rattle.std.specs.Prelude.{◌≡◌, ℕ, ◌-◌, true, ◌==◌, if◌then◌else◌, All, List, [], ◌∷◌, ◌++◌, length, take, drop, codes, decimal, get_or, Option, Some, None, slice_get}
use Rattle.std.specs.List.{flat_map, find, join_by}
use Rattle.set_model.specs.declared.element.Element.{Element}
use Rattle.set_model.specs.declared.kind.Kind.{Kind}
use Rattle.set_model.specs.declared.kind.Kind.TheVariants.{Ipv4}
use Rattle.set_model.specs.declared.script.SetDecl.{SetDecl}
use Rattle.set_model.specs.Key.{key_fits, parts_fit}
use Rattle.set_model.specs.SetState.{answers}
use Rattle.set_model.specs.Text.{set_text, line_feed}
use Rattle.addr_text.specs.Written.{value_text, time_text}
use Rattle.element_text.specs.ElementText.{key_text, intervals_text, comment_text, line_text}
use Rattle.key_match.specs.declared.asked.Asked.{Asked}
use Rattle.key_match.specs.Holders.{fields, unmatched, live_elements, field_holders, holders, first_holder, nearest}

-- A packet's question: the declaration of its set, the elements of the set, and the lines that added them, by their ids. It has
-- the key and the moment of the packet.
pub record Question : Type 0 where
  pub declared : SetDecl
  pub elements : List Element
  pub lines : List ℕ
  pub key : List ℕ
  pub now : ℕ

-- the code's question
abbrev pub plain : Asked → Question
plain a = record { declared = a.declared.now; elements = a.elements.now; lines = a.lines.now; key = a.key.now; now = a.at }

-- A question is proper: the key and the elements fit the set.
pub record IsProper (q : Question) : Type 0 where
  pub key : key_fits q.declared.kinds q.key ≡ true
  pub parts : All (λ e. parts_fit q.declared.kinds e.parts ≡ true) q.elements

-- The value of a field of a key, of the field's kind.
abbrev pub field_text : List Kind → ℕ × ℕ → List ℕ
field_text kinds f = value_text (get_or kinds f.0 Ipv4) f.1

-- `element 0: 192.0.2.0/24 . 80-443`
abbrev pub front_text : SetDecl → Element → List ℕ
front_text d e = codes "element " ++ (decimal e.id ++ (codes ": " ++ intervals_text d.kinds e.parts))

-- `element 0: 192.0.2.0/24 . 80-443 (line 6)`
abbrev pub named_text : Question → Element → List ℕ
named_text q e = front_text q.declared e ++ line_text (slice_get q.lines e.id)

-- the time until an expiry, if there is one
abbrev pub left_text : ℕ → Option ℕ → List ℕ
left_text now None = line_feed
left_text now (Some expiry) = codes ", " ++ (time_text (expiry - now) ++ codes " left\n")

-- The line of the answer: the element with its comment, the line that added it, and the time until it expires.
abbrev pub answer_line : Question → Element → List ℕ
answer_line q e = codes "    " ++ (front_text q.declared e ++ (comment_text e.comment ++ (line_text (slice_get q.lines e.id) ++ left_text q.now e.expiry)))

-- The later elements that hold the key.
abbrev pub others : Question → List Element
others q = drop 1 (holders q.key q.now q.elements)

-- `also in element 3: 192.0.0.0/16 . 443 (line 9)`
abbrev pub also_line : Question → Element → List ℕ
also_line q e = codes "    also in " ++ (named_text q e ++ line_feed)

-- how many more elements hold the key, if there are more
abbrev pub more_line : ℕ → List ℕ
more_line n = if n == 0 then [] else codes "    and " ++ (decimal n ++ codes " more\n")

-- What is written if an element answers: the answer, and the first eight of the later elements that hold the key.
abbrev pub hit_text : Question → Element → List ℕ
hit_text q e = answer_line q e ++ (flat_map (also_line q) (take 8 (others q)) ++ more_line (length (others q) - 8))

-- the moment of an expiry
abbrev pub moment_text : Option ℕ → List ℕ
moment_text None = line_feed
moment_text (Some expiry) = codes ", at " ++ (time_text expiry ++ line_feed)

-- An expired element that held the key, and the moment of its expiry.
abbrev pub expired_text : Question → Option Element → List ℕ
expired_text q None = []
expired_text q (Some e) = codes "    expired: " ++ (named_text q e ++ moment_text e.expiry)

-- `5 elements`
abbrev pub total_text : ℕ → List ℕ
total_text n = decimal n ++ (if n == 1 then codes " element" else codes " elements")

-- how many live elements hold a field of the key, as it is written of the first field and of the others
abbrev pub first_count : Question → ℕ × ℕ → List ℕ
first_count q f = field_text q.declared.kinds f ++ (codes " is in " ++ (decimal (length (field_holders q.now f q.elements)) ++ (codes " of " ++ total_text (length (live_elements q.now q.elements)))))

abbrev pub next_count : Question → ℕ × ℕ → List ℕ
next_count q f = codes ", " ++ (field_text q.declared.kinds f ++ (codes " in " ++ decimal (length (field_holders q.now f q.elements))))

abbrev pub count_text : Question → ℕ × ℕ → List ℕ
count_text q f = if f.0 == 0 then first_count q f else next_count q f

-- `192.0.2.77 is in 2 of 5 elements, 444 in 1`
abbrev pub counts_line : Question → List ℕ
counts_line q = codes "    " ++ (flat_map (count_text q) (fields q.key) ++ line_feed)

-- the values that an element doesn't hold, with ` and ` between them
abbrev pub unmatched_text : List Kind → List ℕ → Element → List ℕ
unmatched_text kinds key e = join_by (field_text kinds) (codes " and ") (unmatched key e)

-- `nearest: element 0: 192.0.2.0/24 . 80-443 (line 6), but for 444`
abbrev pub nearest_text : Question → Option Element → List ℕ
nearest_text q None = []
nearest_text q (Some e) = codes "    nearest: " ++ (named_text q e ++ (codes ", but for " ++ (unmatched_text q.declared.kinds q.key e ++ line_feed)))

-- What the live elements have in common with the key.
abbrev pub near_text : Question → List ℕ
near_text q =
    if length (live_elements q.now q.elements) == 0 then codes "    the set has no live elements\n"
    else counts_line q ++ nearest_text q (nearest q.key q.now q.elements)

-- What is written if no element answers. An element that would have answered if it hadn't expired is named.
abbrev pub miss_text : Question → List ℕ
miss_text q = codes "    no element\n" ++ (expired_text q (first_holder q.key q.elements) ++ near_text q)

-- the explanation of an answer
abbrev pub explained : Question → Option Element → List ℕ
explained q None = miss_text q
explained q (Some e) = hit_text q e

-- the set and the key of a packet, as a key file has them
abbrev pub packet_line : Question → List ℕ
packet_line q = set_text (Some q.declared) ++ (codes " " ++ (key_text q.declared.kinds q.key ++ line_feed))

-- A packet, and the explanation of its answer.
abbrev pub packet_text : Question → List ℕ
packet_text q = packet_line q ++ explained q (find (answers q.key q.now) q.elements)
