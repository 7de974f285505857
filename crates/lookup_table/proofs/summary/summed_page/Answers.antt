use Rattle.std.proofs.Common.{◌≡◌, ◌/◌, ◌*◌, ◌+◌, arith, subst, ℕ}
use Rattle.lookup_table.specs.Summary.{HasMarks}
use Rattle.lookup_table.proofs.SummaryLaws.{no-marks, marks-weaker}
use Rattle.lookup_table.proofs.summary.summed_page.Goals as goal

pub words-init : goal.words-init
words-init c = record {
  own = c.in_ok-page.ensures.own;
  marks = no-marks _ _ _ _ _ _ _ c.in_ok-page.ensures.lines (λ r h e. absurd (omega arith));
}

pub words-preserved : goal.words-preserved
words-preserved c =
    let at : c.words.q / 8 ≡ c.args.p = omega arith in
    record {
      own = c.renew_words.ensures.own;
      marks = subst (λ (p : ℕ). HasMarks 64 c.args.width c.args.bits (512 * (c.words.q + 1)) c.args.buckets.now.rows p c.renew_words.new.page.items) at c.renew_words.ensures.marks;
    }

pub returns : goal.returns
returns c = marks-weaker 64 c.args.width c.args.bits (512 * c.words.q) c.args.rules c.args.p c.args.buckets.now.rows c.words.page.items (λ r h e. omega (arith, c.min-q-end.ensures, c.div_ceil.ensures)) c.words.invariant.marks
