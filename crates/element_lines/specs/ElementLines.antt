-- The lines of packets, with the elements that were found.
use Rattle.std.specs.Prelude.{ℕ, List, [], ◌++◌, flat_map, codes, Option, Some, None, slice_get}
use Rattle.set_model.specs.declared.kind.Kind.{Kind}
use Rattle.set_model.specs.declared.packet.Packet.{Packet}
use Rattle.set_model.specs.declared.packet.Verdict.{Verdict}
use Rattle.set_model.specs.declared.packet.Verdict.TheVariants as verdicts
use Rattle.set_model.specs.declared.report.Line.{Line}
use Rattle.set_model.specs.declared.script.Script.{Script}
use Rattle.set_model.specs.declared.script.SetDecl.{SetDecl}
use Rattle.set_model.specs.declared.script.Step.{Step}
use Rattle.set_model.specs.declared.script.Step.TheVariants.{Change, Flush, Commit, Abort}
use Rattle.set_model.specs.Control.{Mode}
use Rattle.set_model.specs.Text.{numbered, line_feed, verdict_text}
use Rattle.element_text.specs.ElementText.{intervals_text, comment_text}
use Rattle.text_pieces.specs.Pieces.{packet_front}
use Rattle.element_lines.specs.Additions.{Additions, addition_of, noted_addition, sets_of}

-- the kinds of a declared set's fields, or none if there is no such set
abbrev pub kinds_of : Option SetDecl → List Kind
kinds_of None = []
kinds_of (Some d) = d.kinds

-- An addition: the intervals and the comment of its element, as a listing has them, and its line. No other step has a text.
abbrev pub addition_text : List SetDecl → Option Step → List ℕ
addition_text schema None = []
addition_text schema (Some (Change line set verb e now)) = codes " { " ++ intervals_text (kinds_of (slice_get schema set)) e.parts ++ comment_text e.comment ++ numbered (codes " } line") line
addition_text schema (Some (Flush line set now)) = []
addition_text schema (Some (Commit now)) = []
addition_text schema (Some Abort) = []

-- The lines of packets, given the declared sets, the step that made the element of a set with an id, and the packets' sets.
module _ (schema : List SetDecl) (made : ℕ → ℕ → Option Step) (sets : List ℕ) where
  -- the addition of the element of an id in a packet's set, if there is such a packet
  abbrev pub made_text : ℕ → Option ℕ → List ℕ
  made_text id None = []
  made_text id (Some set) = addition_text schema (made set id)

  -- the addition of what was found for the packet of this number, if something was found
  abbrev pub found_text : ℕ → Verdict → List ℕ
  found_text packet verdicts.None = []
  found_text packet (verdicts.Element id) = made_text id (slice_get sets packet)

  -- The line of a packet. The addition of the element that was found comes after the verdict.
  abbrev pub element_line : Line → List ℕ
  element_line l = packet_front l ++ codes " " ++ verdict_text l.verdict ++ found_text l.packet l.verdict ++ line_feed

-- the lines of packets, by the additions that were noted
abbrev pub noted_lines : Additions → List Line → List ℕ
noted_lines a lines = flat_map (element_line a.schema (noted_addition a) a.sets) lines

-- The lines of the packets of a key file, in a run of a script. Each names the element that was found as the script's addition has
-- it.
abbrev pub element_lines : Mode → Script → List (List Packet) → List Line → List ℕ
element_lines mode script keys lines = flat_map (element_line script.schema (addition_of mode script) (sets_of keys)) lines
