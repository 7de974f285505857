use Rattle.std.proofs.Common.{◌≡◌, ◌*◌, length, map, min}
use Rattle.packet_pool.proofs.FilingLaws.{IsFiledTo}
use Rattle.packet_pool.proofs.filing.file.Given as goal

-- the batches so far are filed
abbrev pub invariant-loop-batch : goal.invariant-loop-batch
invariant-loop-batch l = record {
  long : length l.lines.items ≡ min (16 * l.batch) l.count;
  many : length l.next ≡ 16;
  filed : IsFiledTo l.first l.count (map (λ v. v.items) l.lists) l.lines.items l.next;
}
