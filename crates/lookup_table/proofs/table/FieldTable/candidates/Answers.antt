use Rattle.std.proofs.Common.{◌≡◌, ◌∙◌, ◌+◌, ◌*◌, sym, subst, true, arith}
use Rattle.std.proofs.lemmas.Bool.{lt-ltb}
use Rattle.word_summary.specs.Marks.{is_candidate}
use Rattle.bit_rows.proofs.Bits.{bit-and}
use Rattle.lookup_table.proofs.SummaryLaws.{page-marks, leaves-none, words-within}
use Rattle.lookup_table.proofs.table.FieldTable.candidates.Goals as goal

pub returns-in-Some-clause-none : goal.returns-in-Some-clause-none
returns-in-Some-clause-none c = λ blocks stands k r h unset l at_word.
    let t = c.args.self.now in
    let read = c.in-Some.ensures.lookup.3 in
    let has = page-marks 64 t.width t.bits t.rules c.args.p t.buckets.rows t.pages.items c.in-Some.page.now t.summed (rw c.deref.ensures.value at read.0) (rw c.deref.ensures.value at (read.1 c.in-Some.page.now)) in
    leaves-none 64 t.width t.bits t.rules c.args.p c.args.value r k _ c.words_of-words.result c.candidates.result t.buckets.rows c.in-Some.page.now.items blocks t.shaped.groups c.requires.value stands has
    (bit-and c.words_of-words.result c.candidates.result k) (c.words_of-words.ensures k h ∙ lt-ltb (64 * (64 * c.args.p + k)) t.rules (omega (arith, l, at_word))) (λ one. c.candidates.ensures.all k h (subst (λ lines. is_candidate t.bits lines c.args.value k ≡ true) (sym c.as_slice.ensures) one)) h unset l at_word

pub returns-in-Some-clause-within : goal.returns-in-Some-clause-within
returns-in-Some-clause-within c = λ k h set.
    words-within (64 * (64 * c.args.p + k)) c.args.self.now.rules k c.words_of-words.result c.candidates.result (c.words_of-words.ensures k h) set
