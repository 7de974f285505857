use Rattle.std.proofs.Common.{◌≡◌, filter, take}
use Rattle.set_model.specs.Control.{is_refusal}
use Rattle.key_answer.proofs.trace.refusals.Given as goal

abbrev pub invariant-events : goal.invariant-events
invariant-events l = l.some ≡ filter is_refusal (take l.event-index l.event-items)
