use Rattle.std.proofs.Common.{◌≡◌, ◌<◌, ◌%◌, ◌^◌, ◌*◌, ◌∙◌, ap, arith, length, get_or, bit_or, set}
use Rattle.word_summary.proofs.MarkLaws.{keeps-none, keeps-both, keeps-set, set-there, same-line}
use Rattle.word_summary.proofs.marks.mark_run.Goals as goal

pub lines-init : goal.lines-init
lines-init c = record { own = c.requires.own; kept = keeps-none _; set = λ j l h. absurd (omega arith) }

pub lines-preserved : goal.lines-preserved
lines-preserved c =
    let within : c.lines.j < length c.lines.page.items = omega (arith, c.requires.lines, c.lines.invariant.kept.long) in
    let made : c.put.new.self.items ≡ set c.lines.page.items c.lines.j (bit_or (get_or c.lines.page.items c.lines.j 0) (1 * 2 ^ c.args.k % 2 ^ 64)) =
    c.put.ensures.items ∙ ap (λ ws. set c.lines.page.items c.lines.j (bit_or (get_or ws c.lines.j 0) (1 * 2 ^ c.args.k % 2 ^ 64))) c.as_slice.ensures in
    let step = keeps-set c.lines.page.items c.lines.j (1 * 2 ^ c.args.k % 2 ^ 64) within in
    record {
      own = c.put.ensures.own;
      kept = rw made (keeps-both _ _ _ c.lines.invariant.kept step);
      set = λ j l h. rw made (same-line _ _ c.lines.j c.args.k j step (set-there c.lines.page.items c.lines.j c.args.k within c.requires.word) (λ m. c.lines.invariant.set j l m) h);
    }
