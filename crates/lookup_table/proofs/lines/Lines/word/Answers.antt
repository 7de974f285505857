use Rattle.std.proofs.Common.{sym, ◌∙◌, ap, ◌+◌, ◌*◌, ◌/◌, ◌%◌, length, arith, subst}
use Rattle.lookup_table.specs.Table.{cell}
use Rattle.lookup_table.specs.Lines.{Lined}
use Rattle.std.specs.Prelude.{slice_index}
use Rattle.lookup_table.specs.Lines.{words_at, HasLine}
use Rattle.lookup_table.proofs.LineLaws.{rows-length, page-line, word-cell}
use Rattle.lookup_table.proofs.lines.Lines.word.Goals as goal

pub word_of-requires-clause-line : goal.word_of-requires-clause-line
word_of-requires-clause-line c =
    let m = ap (λ (v : Lined). length v.rows) c.self.view_is in
    let n = rows-length c.self.inside.pages.items c.self.inside.len c.self.inside.count in
    subst (HasLine c.args.j) (sym c.as_slice.ensures.value) (page-line c.self.inside.pages.items c.self.inside.count c.args.j c.self.invariant.lines.each (omega arith))

pub word_of-requires-clause-small : goal.word_of-requires-clause-small
word_of-requires-clause-small c =
    let m = ap (λ (v : Lined). length v.rows) c.self.view_is in
    let n = rows-length c.self.inside.pages.items c.self.inside.len c.self.inside.count in
    let f = c.self.invariant.lines.few in
    omega arith

pub returns : goal.returns
returns c = λ k h.
    let e = ap (λ (v : Lined). v.rows) c.self.view_is in
    let m = ap length e in
    let n = rows-length c.self.inside.pages.items c.self.inside.len c.self.inside.count in
    word-cell c.self.inside.pages.items c.self.inside.len c.self.inside.count c.args.j c.args.i c.word_of.result c.self.invariant.lines (omega arith)
    (c.word_of.ensures ∙ ap (λ ps. slice_index (words_at ps (c.args.i / 8)) (c.args.j * 8 + c.args.i % 8)) c.as_slice.ensures.value) k h
    ∙ ap (λ rs. cell rs c.args.j (64 * c.args.i + k)) e
