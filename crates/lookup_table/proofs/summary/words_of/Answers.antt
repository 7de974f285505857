use Rattle.std.proofs.Common.{◌∙◌, sym, ◌+◌, ◌*◌, arith}
use Rattle.std.proofs.lemmas.Bool.{lt-ltb}
use Rattle.bit_rows.proofs.Bits.{bit-low_ones, bit-ones}
use Rattle.lookup_table.proofs.SummaryLaws.{same-lt}
use Rattle.lookup_table.proofs.summary.words_of.Goals as goal

pub returns-then-rules-p : goal.returns-then-rules-p
returns-then-rules-p c = λ k h. bit-ones 64 k ∙ lt-ltb k 64 h ∙ sym (lt-ltb (64 * (64 * c.args.p + k)) c.args.rules (omega arith))

pub returns-then-words-lt64 : goal.returns-then-words-lt64
returns-then-words-lt64 c = λ k h.
    bit-low_ones c.saturating_sub-words.result k c.if-words-lt64.true
    ∙ same-lt k c.saturating_sub-words.result (64 * (64 * c.args.p + k)) c.args.rules (λ l. omega (arith, c.div_ceil.ensures, c.saturating_sub-words.ensures)) (λ l. omega (arith, c.div_ceil.ensures, c.saturating_sub-words.ensures))

pub returns-else-words-lt64 : goal.returns-else-words-lt64
returns-else-words-lt64 c = λ k h.
    bit-ones 64 k ∙ lt-ltb k 64 h
    ∙ sym (lt-ltb (64 * (64 * c.args.p + k)) c.args.rules (omega (arith, c.div_ceil.ensures, c.saturating_sub-words.ensures, c.if-words-lt64.false)))
