use Rattle.std.proofs.Common.{◌∙◌, ap, ◌+◌, ◌*◌, ◌/◌, ◌%◌, arith}
use Rattle.std.specs.Prelude.{slice_index}
use Rattle.lookup_table.specs.Lines.{words_at, line_bit}
use Rattle.lookup_table.proofs.WriteLaws.{word-before, word-closed}
use Rattle.lookup_table.proofs.lines.close_word.Goals as goal

pub returns-then-i-first-clause-closed : goal.returns-then-i-first-clause-closed
returns-then-i-first-clause-closed c = word-before c.args.pages.now.items c.args.first c.args.n c.args.p c.args.x c.if-i-first.true

pub returns-clause-closed : goal.returns-clause-closed
returns-clause-closed c =
    word-closed c.args.first c.args.n c.args.p c.args.x c.word_at-before.result c.moved_word-moved.result c.merged.result c.saturating_sub-low.result c.args.pages.now.items c.write_word.new.pages.items
    c.write_word.ensures.written (omega (arith, c.if-i-first.false)) c.saturating_sub-low.ensures
    (c.word_at-before.ensures ∙ ap (λ ps. slice_index (words_at ps c.args.p) c.args.x) c.as_slice.ensures.value)
    (λ k h. c.moved_word-moved.ensures k h ∙ ap (λ ps. line_bit ps (c.args.x / 8) (64 * (c.args.p * 8 + c.args.x % 8) + c.args.n + k)) c.as_slice-2.ensures.value)
    c.merged.ensures
