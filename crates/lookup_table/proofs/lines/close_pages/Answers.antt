use Rattle.std.proofs.Common.{◌≡◌, ◌∙◌, ap, ◌/◌, get_or, true, arith, refl}
use Rattle.lookup_table.proofs.LineLaws.{page-line}
use Rattle.lookup_table.proofs.WriteLaws.{alike-line, closed-none, closed-word, closed-page}
use Rattle.lookup_table.proofs.lines.close_pages.Goals as goal

pub close_word-requires-clause-line : goal.close_word-requires-clause-line
close_word-requires-clause-line c = alike-line (c.words.x / 8) _ _ c.words.invariant.closed.alike (page-line c.args.pages.now.items c.args.count (c.words.x / 8) c.requires.lines (omega (arith, c.words-test.true)))

pub close_word-requires-clause-own : goal.close_word-requires-clause-own
close_word-requires-clause-own c = ap (λ os. get_or os c.pages.p true) c.words.invariant.closed.alike.own ∙ c.requires.own.own c.pages.p (omega arith) (omega arith)

pub pages-init : goal.pages-init
pages-init c = record { closed = closed-none _ _ _ _; room = refl }

pub words-preserved : goal.words-preserved
words-preserved c = record { closed = closed-word _ _ _ _ _ _ _ _ c.words.invariant.closed c.close_word.ensures.closed; room = c.close_word.ensures.room ∙ c.words.invariant.room }

pub pages-preserved : goal.pages-preserved
pages-preserved c = record { closed = closed-page _ _ _ _ c.words.x _ _ (omega arith) c.words.invariant.closed; room = c.words.invariant.room }

pub returns-clause-closed : goal.returns-clause-closed
returns-clause-closed c =
    let e : c.pages.p ≡ c.args.end = omega arith in
    rw e at c.pages.invariant.closed
