use Rattle.std.proofs.Common.{◌≡◌, []}
use Rattle.log_turns.proofs.turn.take_turn.Given as goal

abbrev pub invariant-loop : goal.invariant-loop
invariant-loop g l = (l.place.table_id ≡ l.fn.place.table_id) × (l.place.me ≡ (record l.fn.place.me.0 { stage = 2; ticket = l.ticket }, []))
