use Rattle.std.proofs.Common.{◌≡◌, ◌+◌, ◌++◌, length, map}
use Rattle.packet_pool.specs.Work.{AreBack, drawn_by}
use Rattle.packet_pool.proofs.readers.take_back.Given as goal

-- what the workers so far have made is taken over
abbrev pub invariant-loop-worker : goal.invariant-loop-worker
invariant-loop-worker l = record {
  items : l.yielded ++ l.worker-iterator.rest.items ≡ l.fn.workers.items;
  lists : map (λ v. v.items) l.lists.items ≡ map (λ w. w.lines.items) l.yielded;
  back : AreBack l.initial.readers.items l.yielded l.readers.items;
  table : l.place.table_id ≡ l.initial.place.table_id;
  many : l.place.me.0.workers ≡ l.initial.place.me.0.workers + length l.yielded;
  drawn : l.place.me.0.drawn ≡ l.initial.place.me.0.drawn ++ drawn_by l.yielded;
}
