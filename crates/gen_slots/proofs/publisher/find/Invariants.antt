use Rattle.std.proofs.Common.{◌≡◌, ℕ, ◌+◌, ◌<◌, ◌≤◌, []}
use Rattle.gen_slots.proofs.Finding.{Tried}
use Rattle.gen_slots.proofs.publisher.find.Given as goal

abbrev pub invariant-loop-slot : goal.invariant-loop-slot
invariant-loop-slot g l = record {
  table : l.place.table_id ≡ l.initial.place.table_id;
  seen : l.place.me.0.seen ≡ l.initial.place.me.0.seen;
  bare : l.place.me.1 ≡ [];
  tried : (m : ℕ) × (l.steps ≡ l.initial.steps + m) × Tried l.initial.place.me.0.role l.place.me.0.role l.readers l.published l.counts l.slot m;
  cost : (l.slot ≤ l.published → l.steps ≤ l.initial.steps + l.slot) × (l.published < l.slot → l.steps + 1 ≤ l.initial.steps + l.slot);
}
