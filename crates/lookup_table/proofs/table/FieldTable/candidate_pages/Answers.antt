use Rattle.std.proofs.Common.{◌≡◌, ◌<◌, ◌∙◌, ◌+◌, ◌*◌, sym, subst, true, arith}
use Rattle.std.proofs.lemmas.Bool.{lt-ltb}
use Rattle.word_summary.specs.Marks.{is_candidate}
use Rattle.bit_rows.proofs.Bits.{bit-and}
use Rattle.lookup_table.proofs.SummaryLaws.{page-marks, leaves-none, words-within}
use Rattle.lookup_table.proofs.table.FieldTable.candidate_pages.Goals as goal

pub returns-in-Some-clause-none : goal.returns-in-Some-clause-none
returns-in-Some-clause-none c = λ blocks stands k r h unset l at_page.
    let t = c.args.self.now in
    let read = c.in-Some.ensures.lookup.3 in
    let has = page-marks 4096 t.width t.bits t.rules c.args.q t.buckets.rows t.tops.items c.in-Some.top.now t.topped (rw c.deref.ensures.value at read.0) (rw c.deref.ensures.value at (read.1 c.in-Some.top.now)) in
    leaves-none 4096 t.width t.bits t.rules c.args.q c.args.value r k _ c.words_of-pages.result c.candidates.result t.buckets.rows c.in-Some.top.now.items blocks t.shaped.groups c.requires.value stands has
    (bit-and c.words_of-pages.result c.candidates.result k) (c.words_of-pages.ensures k h ∙ lt-ltb (64 * (64 * c.args.q + k)) c.div_ceil.result (omega (arith, l, at_page, c.div_ceil.ensures)))
    (λ one. c.candidates.ensures.all k h (subst (λ lines. is_candidate t.bits lines c.args.value k ≡ true) (sym c.as_slice.ensures) one)) h unset l at_page

pub returns-in-Some-clause-within : goal.returns-in-Some-clause-within
returns-in-Some-clause-within c = λ k h set.
    let within : 64 * (64 * c.args.q + k) < c.div_ceil.result = words-within (64 * (64 * c.args.q + k)) c.div_ceil.result k c.words_of-pages.result c.candidates.result (c.words_of-pages.ensures k h) set in
    omega (arith, within, c.div_ceil.ensures)
