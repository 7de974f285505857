use Rattle.std.proofs.Common.{◌∙◌, ap, ◌&&◌, Bool, not, nat_eq}
use Rattle.std.specs.Prelude.{slice_index}
use Rattle.std.proofs.lemmas.Bool.{le-ltb}
use Rattle.word_summary.proofs.MarkLaws.{one-mark, page-more}
use Rattle.word_summary.proofs.marks.mark_page.Goals as goal

pub mark_line-requires-clause-marks : goal.mark_line-requires-clause-marks
mark_line-requires-clause-marks c = λ i low h.
    let some : Bool = not (nat_eq (slice_index c.args.lines.now c.lines.j) 0) in
    one-mark some i ∙ ap (λ t. t && some) (le-ltb i 1 low)

pub lines-preserved : goal.lines-preserved
lines-preserved c =
    let some : Bool = not (nat_eq (slice_index c.args.lines.now c.lines.j) 0) in
    record {
      own = c.mark_line.ensures.own;
      marked = page-more c.args.k c.lines.j _ c.args.lines.now c.args.top.now.items c.lines.top.items c.mark_line.new.page.items (one-mark some 0) c.mark_line.ensures.marked c.lines.invariant.marked;
    }
