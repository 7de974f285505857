use Rattle.std.proofs.Common.{◌≡◌, ◌∷◌, ◌++◌, [], map}
use Rattle.std.specs.Arc.{arc_value}
use Rattle.log_turns.specs.LogRule.{HasTurns, IsSized, kept_of}
use Rattle.control_desk.specs.Work.{kept_by}
use Rattle.control_desk.proofs.run.gather.Given as goal

-- the seat has taken over the seats so far
abbrev pub invariant-loop-clerk : goal.invariant-loop-clerk
invariant-loop-clerk l = record {
  table : l.place.table_id ≡ (arc_value l.board).shared.table_id;
  of : l.place.table_id ≡ l.fn.first.of;
  sized : IsSized l.place.table_id;
  seat : HasTurns l.place.me.0.role × (l.place.me.0.stage ≡ 1) × (l.place.me.1 ≡ []);
  kept : kept_of l.place.me.0 ≡ kept_by l.fn.first ∷ map kept_by l.yielded;
  base : l.place.me.0.base ≡ l.fn.first.base;
  threads : l.place.me.0.threads ≡ l.fn.first.threads;
  all : l.yielded ++ l.clerk-iterator.rest.items ≡ l.fn.others.items;
}
