use Rattle.std.proofs.Common.{◌≡◌, ◌-◌, ◌≤◌, ℕ, length, [], slice_get}
use Rattle.packet_pool.specs.Draws.{hand}
use Rattle.packet_pool.specs.Work.{AreDealt}
use Rattle.packet_pool.proofs.readers.hand_out.Given as goal

-- the first readers are workers', and the others at their places
abbrev pub invariant-loop-i : goal.invariant-loop-i
invariant-loop-i l = record {
  many : length l.workers.items ≡ l.i;
  dealt : AreDealt l.initial.readers.items l.batches l.counter.shared.table_id l.workers.items;
  table : l.place.table_id ≡ l.initial.place.table_id;
  place : l.place.me ≡ (hand (l.count - l.i) l.batches [] 0, []);
  size : length l.readers.items ≡ length l.initial.readers.items;
  idle : (k : ℕ) → l.i ≤ k → slice_get l.readers.items k ≡ slice_get l.initial.readers.items k;
}
