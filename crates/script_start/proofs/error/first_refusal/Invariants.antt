use Rattle.std.proofs.Common.{◌≡◌, drop}
use Rattle.script_start.specs.Refusals.{refusal_in}
use Rattle.script_start.proofs.error.first_refusal.Given as goal

-- no event so far is a refusal
abbrev pub invariant-events : goal.invariant-events
invariant-events l = refusal_in (drop l.event-index l.events) ≡ refusal_in l.events
