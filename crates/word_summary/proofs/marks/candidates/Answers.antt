use Rattle.std.proofs.Common.{◌≡◌, ◌+◌, ◌-◌, ◌*◌, bit_and, subst, arith}
use Rattle.std.specs.Prelude.{slice_index}
use Rattle.word_summary.proofs.MarkLaws.{AreLeft, left-last, left-more, left-all, left-single}
use Rattle.word_summary.proofs.marks.candidates.Goals as goal

pub bytes-init : goal.bytes-init
bytes-init c =
    let all : c.args.last.rest - 0 ≡ c.args.last.rest = omega arith in
    rw all (left-last c.args.bits c.args.lines.now c.args.value c.args.last c.requires.groups c.requires.last)

pub returns-then-is_single : goal.returns-then-is_single
returns-then-is_single c =
    left-single c.args.bits (c.args.last.rest - c.bytes.i) c.args.lines.now c.args.value c.bytes.left (c.is_single.ensures c.if-is_single.true) c.bytes.invariant

pub bytes-preserved : goal.bytes-preserved
bytes-preserved c =
    let byte = c.args.last.rest - 1 - c.bytes.i in
    let few = c.requires.last.rest in
    let same : byte ≡ c.args.last.rest - (c.bytes.i + 1) = omega arith in
    subst (λ n. AreLeft c.args.bits n c.args.lines.now c.args.value (bit_and c.bytes.left (slice_index c.args.lines.now (byte * 256 + c.group_value-v.result)))) same
    (left-more c.args.bits (c.args.last.rest - c.bytes.i) byte c.group_value-v.result c.args.lines.now c.args.value c.bytes.left (omega arith) (omega arith) c.group_value-v.ensures c.bytes.invariant)

pub returns : goal.returns
returns c =
    let none : c.args.last.rest - c.bytes.i ≡ 0 = omega arith in
    left-all c.args.bits c.args.lines.now c.args.value c.bytes.left (rw none at c.bytes.invariant)
