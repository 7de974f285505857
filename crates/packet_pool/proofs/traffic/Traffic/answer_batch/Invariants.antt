use Rattle.std.proofs.Common.{◌≡◌, ◌+◌, ◌*◌, ◌<◌, ◌≤◌, ℕ, length, vec_capacity}
use Rattle.history_laws.specs.Histories.{StartsWith}
use Rattle.packet_pool.specs.Draws.{once_below}
use Rattle.packet_pool.specs.Work.{Told, Before, named}
use Rattle.packet_pool.proofs.traffic.Traffic.answer_batch.Given as goal

-- the lines of the packets so far are made, and there is room for the others
abbrev pub invariant-loop-place : goal.invariant-loop-place
invariant-loop-place g l = record {
  seen : StartsWith l.reader.seen l.initial.reader.seen;
  same : (l.reader.of ≡ l.initial.reader.of) × (l.reader.schema ≡ l.initial.reader.schema) × (l.reader.reader ≡ l.initial.reader.reader);
  moves : l.reader.moves + 2 * length l.initial.lines.items ≡ l.initial.reader.moves + 2 * length l.lines.items;
  room : length l.lines.items + 16 * l.batch + 16 ≤ vec_capacity l.lines + l.place;
  told : (low : ℕ) → low ≤ length l.initial.reader.seen → Told (g.J.Judge.verdict l.self.judge.now) l.self.packets.now l.self.first l.thread low l.initial.reader.seen l.initial.lines.items → Told (g.J.Judge.verdict l.self.judge.now) l.self.packets.now l.self.first l.thread low l.reader.seen l.lines.items;
  before : Before (l.self.first + l.place) l.lines.items;
  named : (p : ℕ) → p < length l.self.packets.now → named (l.self.first + p) l.lines.items + once_below p (16 * l.batch) ≡ named (l.self.first + p) l.initial.lines.items + once_below p l.place;
}
