use Rattle.std.proofs.Common.{◌≡◌, [], length}
use Rattle.std.specs.Arc.{arc_value}
use Rattle.log_turns.specs.declared.Role.TheVariants.{Opener}
use Rattle.log_turns.specs.LogRule.{opening_view}
use Rattle.control_desk.proofs.Opened.{AreDealt}
use Rattle.control_desk.proofs.opening.deal.Given as goal

-- so many control threads were made, each with a seat of its own
abbrev pub invariant-loop-given : goal.invariant-loop-given
invariant-loop-given l = record {
  table : l.place.table_id ≡ l.initial.place.table_id;
  seat : l.place.me ≡ (record (opening_view l.initial.place.me.0.left l.clerks l.initial.place.me.0.base) { role = Opener l.given }, []);
  size : length l.dealt.items ≡ l.given;
  seats : AreDealt l.initial.place.table_id (arc_value l.board).shared.key.first.value.control.schema l.initial.place.me.0.base l.clerks l.initial.place.me.0.left l.dealt.items;
}
