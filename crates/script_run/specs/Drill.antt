-- What `drill` writes: the line of a generated workload's run.
use Rattle.std.specs.Prelude.{◌≡◌, ℕ, List, map}
use Rattle.set_model.specs.declared.packet.Packet.{Packet}
use Rattle.set_model.specs.declared.packet.Verdict.{Verdict}
use Rattle.set_model.specs.Control.{Control, KeepGoing, history}
use Rattle.drill_gen.specs.Drill.{drill_script, drill_packets}
use Rattle.set_report.specs.SummaryText.{summary_of}
use Rattle.gen_publish.specs.Publish.{Steering}
use Rattle.packet_pool.specs.declared.section.SectionResult.{SectionResult}
use Rattle.script_run.specs.Telling.{looked_up}

-- the verdicts on packets in the last generation of a control
abbrev pub last_verdicts : Control → List Packet → List Verdict
last_verdicts c packets = map (looked_up c.last) packets

-- The generated script, run to its end. A refused change is skipped.
abbrev pub drilled : ℕ → ℕ → Control
drilled seed count = history KeepGoing (drill_script seed count).schema (drill_script seed count).sections

-- The line of the generated script's run. Its matches are those of the generated packets in the last
-- generation.
unfoldable pub drill_text : ℕ → ℕ → List ℕ
drill_text seed count = let c = drilled seed count in summary_of c.events (last_verdicts c (drill_packets seed count)) c.last

-- Packets were answered in the last generation after a script's steps, and in no other.
pub record IsDrilled (c : Control) (packets : List Packet) (control : Steering) (r : SectionResult) : Type 0 where
  pub last : control.work.base ≡ c.last
  pub events : r.events ≡ c.events
  pub verdicts : map (λ l. l.verdict) r.lines ≡ last_verdicts c packets
