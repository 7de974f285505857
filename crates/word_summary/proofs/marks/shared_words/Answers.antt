use Rattle.std.proofs.Common.{◌≡◌, ◌∙◌, ap, ℕ, ◌+◌, ◌*◌, Bool, arith}
use Rattle.std.specs.Prelude.{slice_index}
use Rattle.bit_rows.specs.Row.{bit}
use Rattle.word_summary.specs.Marks.{share}
use Rattle.bit_rows.proofs.Marked.{marks_to, marks-none, marks-on, marks-off, marks-eight}
use Rattle.word_summary.proofs.MarkLaws.{shares, shares-none}
use Rattle.word_summary.proofs.marks.shared_words.Goals as goal
use Rattle.word_summary.proofs.marks.shared_words.Goals.{then-words-upper-ne0, else-words-upper-ne0}

pub words-init : goal.words-init
words-init c = λ i h. marks-none (λ k. share (slice_index c.args.words.now (c.args.upper * 8 + k)) (slice_index c.args.words.now (c.args.lower * 8 + k))) 0 i

pub words-preserved : goal.words-preserved
words-preserved c =
    let s : ℕ → Bool = λ k. share (slice_index c.args.words.now (c.args.upper * 8 + k)) (slice_index c.args.words.now (c.args.lower * 8 + k)) in
    elim c.if-words-upper-ne0.branch [
      | then-words-upper-ne0 w ↦ λ i h. ap (λ x. bit x i) w.marks-is ∙ marks-on s c.words.marks 0 c.words.w i (omega arith) h (shares _ w.if-words-upper-ne0.true) (c.words.invariant i h)
      | else-words-upper-ne0 w ↦ λ i h. ap (λ x. bit x i) w.marks-is ∙ marks-off s c.words.marks 0 c.words.w i (shares-none _ w.if-words-upper-ne0.false) (c.words.invariant i h)
    ]

pub returns : goal.returns
returns c = λ i h.
    let s : ℕ → Bool = λ k. share (slice_index c.args.words.now (c.args.upper * 8 + k)) (slice_index c.args.words.now (c.args.lower * 8 + k)) in
    let e : c.words.w ≡ 8 = omega arith in
    c.words.invariant i h ∙ ap (λ n. marks_to s 0 n i) e ∙ marks-eight s i
