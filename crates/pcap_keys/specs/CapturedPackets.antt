-- The packets of a capture, by a plan.
use Rattle.std.specs.Prelude.{◌≡◌, ℕ, List, Ok}
use Rattle.set_model.specs.declared.packet.Packet.{Packet}
use Rattle.set_model.specs.declared.script.SetDecl.{SetDecl}
use Rattle.pcap_keys.specs.declared.error.CaptureReason.{CaptureReason}
use Rattle.pcap_keys.specs.declared.facts.Frame.{Frame}
use Rattle.pcap_keys.specs.declared.selector.PlanLine.{PlanLine}
use Rattle.pcap_keys.specs.Captured.{captured, fault}
use Rattle.pcap_keys.specs.PlansText.{IsPlanText}
use Rattle.pcap_keys.specs.Planned as planned

-- The bytes are a capture, and these are its frames.
abbrev pub IsCapture : List ℕ → List Frame → Type 0
IsCapture text frames = captured text ≡ Ok frames

-- The bytes are no capture: their first fault is at this byte and has this reason.
abbrev pub IsBadCapture : List ℕ → ℕ → CaptureReason → Type 0
IsBadCapture text byte reason = captured text ≡ fault byte reason

-- One text is a plan for the schema's sets, the other a capture, and these are the packets that the plan makes of its frames.
pub record AreCaptured (schema : List SetDecl) (plan_text capture_text : List ℕ) (packets : List Packet) : Type 0 where
  pub plan : List PlanLine
  pub frames : List Frame
  pub is_plan : IsPlanText schema plan_text plan
  pub is_capture : IsCapture capture_text frames
  pub made : packets ≡ planned.packets plan frames
