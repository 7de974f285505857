use Rattle.std.proofs.Common.{◌∙◌, ap, ◌+◌, ◌*◌, ◌&&◌, nat_lt, arith}
use Rattle.std.specs.Prelude.{slice_index}
use Rattle.std.proofs.lemmas.Bool.{le-ltb}
use Rattle.word_summary.specs.Marks.{share}
use Rattle.lookup_table.specs.Summary.{upper_place}
use Rattle.lookup_table.proofs.SummaryLaws.{upper-within, lower-within, buckets-few, lines-none, lines-more, lines-all}
use Rattle.lookup_table.proofs.summary.renew_words.Goals as goal

pub shared_words-marks-requires-clause-upper : goal.shared_words-marks-requires-clause-upper
shared_words-marks-requires-clause-upper c =
    omega (arith, c.line_places-upper.ensures.upper, c.page-words.ensures.long, upper-within c.args.width c.args.bits c.lines.j c.args.buckets.now.rows c.requires.groups c.requires.count c.lines-test.true)

pub shared_words-marks-requires-clause-lower : goal.shared_words-marks-requires-clause-lower
shared_words-marks-requires-clause-lower c =
    omega (arith, c.line_places-upper.ensures.lower, c.page-words.ensures.long, lower-within c.args.width c.args.bits c.lines.j c.args.buckets.now.rows c.requires.groups c.requires.count c.lines-test.true)

pub shared_words-marks-requires-clause-few : goal.shared_words-marks-requires-clause-few
shared_words-marks-requires-clause-few c = omega (arith, c.page-words.ensures.long, buckets-few c.args.width c.args.bits c.args.buckets.now.rows c.requires.groups c.requires.count)

pub mark_line-requires-clause-marks : goal.mark_line-requires-clause-marks
mark_line-requires-clause-marks c = λ k low h.
    c.shared_words-marks.ensures k h
    ∙ ap (λ t. t && share (slice_index c.page-words.result.now (c.line_places-upper.result.0 * 8 + k)) (slice_index c.page-words.result.now (c.line_places-upper.result.1 * 8 + k))) (le-ltb k 8 low)

pub lines-init : goal.lines-init
lines-init c = record { own = c.requires.own; lines = lines-none _ _ _ _ _ _ c.requires.marks }

pub lines-preserved : goal.lines-preserved
lines-preserved c = record {
  own = c.mark_line.ensures.own;
  lines = lines-more c.args.width c.args.bits c.args.q c.lines.j c.shared_words-marks.result c.args.buckets.now.rows c.page-words.result.now c.args.page.now.items c.lines.page.items c.mark_line.new.page.items
      c.lines-test.true c.page-words.ensures
      (upper-within c.args.width c.args.bits c.lines.j c.args.buckets.now.rows c.requires.groups c.requires.count c.lines-test.true)
      (lower-within c.args.width c.args.bits c.lines.j c.args.buckets.now.rows c.requires.groups c.requires.count c.lines-test.true)
      (λ w h.
      c.shared_words-marks.ensures w h
      ∙ ap (λ x. nat_lt w 8 && share (slice_index c.page-words.result.now (x * 8 + w)) (slice_index c.page-words.result.now (c.line_places-upper.result.1 * 8 + w))) c.line_places-upper.ensures.upper
      ∙ ap (λ x. nat_lt w 8 && share (slice_index c.page-words.result.now (upper_place c.args.width c.lines.j * 8 + w)) (slice_index c.page-words.result.now (x * 8 + w))) c.line_places-upper.ensures.lower)
      c.requires.marks c.mark_line.ensures.marked c.lines.invariant.lines;
}

pub returns-clause-marks : goal.returns-clause-marks
returns-clause-marks c = lines-all _ _ _ c.lines.j _ _ _ (omega arith) c.lines.invariant.lines
