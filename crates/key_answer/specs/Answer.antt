-- The answer to a key at a script's last generation, and its text.
use Rattle.std.specs.Prelude.{◌≡◌, ℕ, Bool, ◌||◌, not, List, [], ◌∷◌, ◌++◌, filter, Option, Some, None, is_some, slice_get, codes, decimal}
use Rattle.set_model.specs.declared.element.Element.{Element}
use Rattle.set_model.specs.declared.packet.Packet.{Packet}
use Rattle.set_model.specs.declared.script.Script.{Script}
use Rattle.set_model.specs.declared.script.SetDecl.{SetDecl}
use Rattle.set_model.specs.Control.{Mode, Generation, history, has_refusal, is_refusal}
use Rattle.set_model.specs.SetState.{State, first}
use Rattle.set_model.specs.Text.{numbered, line_feed}
use Rattle.element_text.specs.ElementText.{line_text}
use Rattle.set_report.specs.ListText.{element_text}
use Rattle.set_report.specs.Remarks.{remarks_text}
use Rattle.key_answer.specs.Origin.{traced}
use Rattle.key_answer.specs.Question.{IsKey, at_moment}

-- the first element of a set that is live at a moment and holds a key
abbrev pub first_in : List ℕ → ℕ → Option State → Option Element
first_in key now None = None
first_in key now (Some s) = first s key now

-- the element that answers a packet in a generation
abbrev pub answer_in : Generation → Packet → Option Element
answer_in g p = first_in p.key p.now (slice_get g.sets p.set)

-- An element by its id, as a listing has it at this moment, and the line that added it.
abbrev pub origin_text : SetDecl → ℕ → List ℕ → Element → List ℕ
origin_text d now lines e = numbered (codes "element") e.id ++ codes ": " ++ element_text d now e ++ line_text (slice_get lines e.id)

-- the line of an answer: an element of a declared set, or none
abbrev pub answer_text : Option SetDecl → ℕ → List ℕ → Option Element → List ℕ
answer_text d now lines None = codes "none\n"
answer_text None now lines (Some e) = []
answer_text (Some d) now lines (Some e) = origin_text d now lines e ++ line_feed

-- What `get` writes: the refused changes as comments, and then the answer to the packet in the last generation.
abbrev pub get_text : Mode → Script → Packet → List ℕ
get_text mode script p =
    let t = traced mode p.set script.schema script.sections in
    remarks_text script.schema (filter is_refusal t.control.events) ++ answer_text (slice_get script.schema p.set) p.now t.lines (answer_in t.control.last p)

-- A change of the script is refused, or no element of the last generation answers the packet.
abbrev pub has_no_answer : Mode → Script → Packet → Bool
has_no_answer mode script p = has_refusal mode script || not (is_some (answer_in (history mode script.schema script.sections).last p))

-- The output of a `get`: the words are a key, and the text and the mark are those of its packet.
pub record GivesAnswer (mode : Mode) (script : Script) (words : List (List ℕ)) (moment : Option ℕ) (refused : Bool) (text : List ℕ) : Type 0 where
  pub packet : Packet
  pub is_key : IsKey script.schema words packet
  pub text_is : text ≡ get_text mode script (at_moment moment script packet)
  pub refused_is : refused ≡ has_no_answer mode script (at_moment moment script packet)
