use Rattle.std.proofs.Common.{◌≡◌, [], ◌++◌, length}
use Rattle.gen_turns.specs.declared.board.Role.TheVariants.{Keeper}
use Rattle.gen_turns.specs.TurnViews.{AllNew}
use Rattle.gen_turns.proofs.making.deal.Given as goal

abbrev pub invariant-loop-value : goal.invariant-loop-value
invariant-loop-value g l = record {
  table : l.place.table_id ≡ l.initial.place.table_id;
  seat : l.place.me ≡ (record l.initial.place.me.0 { role = Keeper (length l.fn.first.items) (length l.yielded) }, []);
  all : l.yielded ++ l.value-iterator.rest.items ≡ l.fn.first.items;
  size : length l.passes.items ≡ length l.yielded;
  passes : AllNew l.initial.place.table_id l.initial.place.me.0.seen 0 l.passes.items;
}
