use Rattle.std.proofs.Common.{◌-◌}
use Rattle.word_summary.proofs.MarkLaws.{AreLeft}
use Rattle.word_summary.proofs.marks.candidates.Given as goal

abbrev pub invariant-bytes : goal.invariant-bytes
invariant-bytes l = AreLeft l.bits (l.last.rest - l.i) l.lines l.value l.left
