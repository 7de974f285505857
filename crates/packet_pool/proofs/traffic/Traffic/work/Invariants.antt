use Rattle.std.proofs.Common.{◌≡◌, ◌+◌, ◌-◌, ◌*◌, ◌/◌, ◌<◌, ◌≤◌, ℕ, length, []}
use Rattle.history_laws.specs.Histories.{StartsWith}
use Rattle.packet_pool.specs.Draws.{times}
use Rattle.packet_pool.specs.Work.{Told, Before, named, batches_of}
use Rattle.packet_pool.proofs.traffic.Traffic.work.Given as goal

-- the number drawn last is below the batches, and the next is higher
abbrev pub decreases-draws : goal.decreases-draws
decreases-draws g l = l.batches - l.least

-- the batches that were drawn are answered
abbrev pub invariant-draws : goal.invariant-draws
invariant-draws g l = record {
  count : l.batches ≡ batches_of (length l.self.packets.now);
  seen : StartsWith l.reader.seen l.initial.reader.seen;
  same : (l.reader.of ≡ l.initial.reader.of) × (l.reader.schema ≡ l.initial.reader.schema) × (l.reader.reader ≡ l.initial.reader.reader);
  moves : l.reader.moves ≡ l.initial.reader.moves + 2 * length l.lines.items;
  told : Told (g.J.Judge.verdict l.self.judge.now) l.self.packets.now l.self.first l.thread (length l.initial.reader.seen) l.reader.seen l.lines.items;
  before : Before (l.self.first + 16 * l.least) l.lines.items;
  named : (p : ℕ) → p < length l.self.packets.now → named (l.self.first + p) l.lines.items ≡ times (p / 16) l.place.me.0.drawn;
  table : (l.place.table_id ≡ l.initial.place.table_id) × (l.place.me.1 ≡ []);
  free : (l.place.me.0.workers ≡ 1) × (l.place.me.0.batches ≡ l.batches) × (l.place.me.0.past ≡ 0);
  least : (l.least ≤ l.batches) × (0 < l.least → 0 < times (l.least - 1) l.place.me.0.drawn);
}
