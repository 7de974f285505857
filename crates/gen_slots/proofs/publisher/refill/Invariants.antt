use Rattle.std.proofs.Common.{◌≡◌, List, Option, take, drop, length, vec_capacity}
use Rattle.gen_slots.specs.SlotSteps.{berths}
use Rattle.gen_slots.proofs.Rows.{Row}
use Rattle.gen_slots.proofs.publisher.refill.Given as goal

abbrev pub invariant-loop-reader : goal.invariant-loop-reader
invariant-loop-reader g l = record {
  table : l.place.table_id ≡ l.initial.place.table_id;
  seat : l.place.id ≡ l.initial.place.id;
  size : length l.values.items ≡ length l.initial.values.items;
  room : vec_capacity l.values ≡ vec_capacity l.initial.values;
  left : drop l.reader l.values.items ≡ drop l.reader l.initial.values.items;
  taken : (ys : List (Option g.row.T.Denot)) × (length ys ≡ length l.initial.values.items) × (l.initial.place.me.1 ≡ berths l.slot 0 ys) × Row l.slot l.reader ys l.initial.values.items l.initial.place.me.0 l.place.me × (take l.reader l.values.items ≡ take l.reader ys);
}
