-- What `explain` writes of a script and a key file.
use Rattle.std.specs.Prelude.{◌≡◌, ℕ, ◌+◌, Bool, ◌||◌, List, [], ◌++◌, filter, take, Option, Some, None, is_none, slice_get}
use Rattle.std.specs.List.{flat_map, list_any, enumerate_from}
use Rattle.set_model.specs.declared.packet.Packet.{Packet}
use Rattle.set_model.specs.declared.script.Script.{Script}
use Rattle.set_model.specs.declared.script.SetDecl.{SetDecl}
use Rattle.set_model.specs.Control.{Mode, Generation, history, is_refusal, has_refusal}
use Rattle.set_model.specs.SetState.{State}
use Rattle.set_report.specs.Remarks.{remarks_text}
use Rattle.key_answer.specs.Answer.{answer_in}
use Rattle.key_answer.specs.Origin.{traced}
use Rattle.key_match.specs.Matched.{packet_text}

-- A script after some of its sections: the declared sets, the last generation, and for each set the lines that added its elements.
pub record After : Type 0 where
  pub schema : List SetDecl
  pub generation : Generation
  pub lines : ℕ → List ℕ

-- a script after its first sections, so many
abbrev pub after_sections : Mode → Script → ℕ → After
after_sections mode script count =
    let done = take count script.sections in
    record { schema = script.schema; generation = (history mode script.schema done).last; lines = λ set. (traced mode set script.schema done).lines }

-- a packet of a declared set in this state, and the explanation of its answer
abbrev pub said_of : Option SetDecl → List ℕ → Packet → Option State → List ℕ
said_of None lines p s = []
said_of (Some d) lines p None = []
said_of (Some d) lines p (Some s) = packet_text (record { declared = d; elements = s.elements; lines = lines; key = p.key; now = p.now })

-- a packet, and the explanation of its answer at this point of the script
abbrev pub packet_in : After → Packet → List ℕ
packet_in a p = said_of (slice_get a.schema p.set) (a.lines p.set) p (slice_get a.generation.sets p.set)

-- no element answers a packet at this point of the script
abbrev pub lacks_answer : After → Packet → Bool
lacks_answer a p = is_none (answer_in a.generation p)

-- The packets of a section of the key file, by the section's number from 0. They come after a section of the script with the next
-- number.
abbrev pub section_text : Mode → Script → ℕ × List Packet → List ℕ
section_text mode script s = flat_map (packet_in (after_sections mode script (s.0 + 2))) s.1

abbrev pub section_lacks : Mode → Script → ℕ × List Packet → Bool
section_lacks mode script s = list_any (lacks_answer (after_sections mode script (s.0 + 2))) s.1

-- The text of an explanation: the refused changes of the script as comments, and then the packets. Each packet is answered at
-- its own moment in the last generation of its section.
abbrev pub explain_text : Mode → Script → List (List Packet) → List ℕ
explain_text mode script keys = remarks_text script.schema (filter is_refusal (history mode script.schema script.sections).events) ++ flat_map (section_text mode script) (enumerate_from 0 keys)

-- A change of the script is refused, or no element answers one of the packets.
abbrev pub lacks_any : Mode → Script → List (List Packet) → Bool
lacks_any mode script keys = has_refusal mode script || list_any (section_lacks mode script) (enumerate_from 0 keys)

-- The output of an `explain`.
pub record Explains (mode : Mode) (script : Script) (keys : List (List Packet)) (refused : Bool) (text : List ℕ) : Type 0 where
  pub text_is : text ≡ explain_text mode script keys
  pub refused_is : refused ≡ lacks_any mode script keys
