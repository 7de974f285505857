-- A plan and a capture have one list of packets at most.
use Rattle.std.proofs.Common.{◌≡◌, sym, ◌∙◌, ap, ℕ, List, Result, Ok}
use Rattle.set_model.specs.declared.packet.Packet.{Packet}
use Rattle.set_model.specs.declared.script.SetDecl.{SetDecl}
use Rattle.pcap_keys.specs.declared.error.CaptureError.{CaptureError}
use Rattle.pcap_keys.specs.declared.facts.Frame.{Frame}
use Rattle.pcap_keys.specs.declared.selector.PlanLine.{PlanLine}
use Rattle.pcap_keys.specs.CapturedPackets.{AreCaptured}
use Rattle.pcap_keys.specs.Planned as planned
use Rattle.pcap_keys.proofs.PlansLaws.{plan_single}

-- these frames, as an answer
abbrev read : List Frame → Result (List Frame) CaptureError
read frames = Ok frames

one_answer : (frames other : List Frame) → read frames ≡ read other → frames ≡ other
one_answer frames other e = cc e

pub one_capture : (schema : List SetDecl) (plan_text capture_text : List ℕ) (packets other : List Packet) → AreCaptured schema plan_text capture_text packets → AreCaptured schema plan_text capture_text other → packets ≡ other
one_capture schema plan_text capture_text packets other i j =
    let plan : i.plan ≡ j.plan = plan_single schema plan_text i.plan j.plan i.is_plan j.is_plan in
    let frames : i.frames ≡ j.frames = one_answer i.frames j.frames (sym i.is_capture ∙ j.is_capture) in
    i.made ∙ ap (λ (z : List PlanLine). planned.packets z i.frames) plan ∙ ap (λ (z : List Frame). planned.packets j.plan z) frames ∙ sym j.made
