use Rattle.std.proofs.Common.{◌≡◌, [], length}
use Rattle.gen_slots.specs.declared.board.Plan.{Plan}
use Rattle.gen_slots.specs.declared.board.Role.TheVariants.{Keeper}
use Rattle.gen_slots.specs.SlotViews.{AllNew}
use Rattle.gen_slots.proofs.making.deal.Given as goal

abbrev pub invariant-loop-reader : goal.invariant-loop-reader
invariant-loop-reader g l = record {
  table : l.place.table_id ≡ l.initial.place.table_id;
  bare : l.place.me.1 ≡ [];
  seen : l.place.me.0.seen ≡ l.initial.place.me.0.seen;
  planned : (p : Plan g.row.T-State.Denot) → l.initial.place.me.0.role ≡ Keeper p → l.place.me.0.role ≡ Keeper record p { given = l.reader };
  size : length l.passes.items ≡ l.reader;
  passes : AllNew l.initial.place.table_id l.initial.place.me.0.seen 0 l.passes.items;
}
