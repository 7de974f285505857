-- A run in one line: how many elements, refusals, packets and matches, and which generation.
use Rattle.std.specs.Prelude.{ℕ, Bool, true, false, List, ◌++◌, length, map, count_by, codes}
use Rattle.std.specs.List.{sum_by}
use Rattle.set_model.specs.declared.packet.Verdict.{Verdict}
use Rattle.set_model.specs.declared.packet.Verdict.TheVariants as verdicts
use Rattle.set_model.specs.declared.report.Line.{Line}
use Rattle.set_model.specs.declared.report.Event.{Event}
use Rattle.set_model.specs.SetState.{State}
use Rattle.set_model.specs.Control.{Generation, is_refusal}
use Rattle.set_model.specs.Text.{numbered, line_feed}

-- how many elements sets have, all together
abbrev pub element_count : List State → ℕ
element_count sets = sum_by (λ s. length s.elements) sets

-- A packet matched: its verdict is an element.
abbrev pub is_match : Verdict → Bool
is_match verdicts.None = false
is_match (verdicts.Element id) = true

-- the id that a verdict has, or 0 if it has none
abbrev pub id_given : Verdict → ℕ
id_given verdicts.None = 0
id_given (verdicts.Element id) = id

-- The line of a run, by its events, its packets' verdicts and its last generation.
abbrev pub summary_of : List Event → List Verdict → Generation → List ℕ
summary_of events answers generation =
    numbered (codes "drill elements") (element_count generation.sets)
    ++ numbered (codes " refused") (count_by is_refusal events)
    ++ numbered (codes " generation") generation.number
    ++ numbered (codes " packets") (length answers)
    ++ numbered (codes " matched") (count_by is_match answers)
    ++ numbered (codes " sum") (sum_by id_given answers)
    ++ line_feed

-- The same line by the lines of the packets.
abbrev pub summary_text : List Event → List Line → Generation → List ℕ
summary_text events lines generation = summary_of events (map (λ l. l.verdict) lines) generation
