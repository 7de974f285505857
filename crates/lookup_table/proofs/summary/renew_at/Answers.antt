use Rattle.std.proofs.Common.{◌∙◌, sym, ◌/◌, arith}
use Rattle.lookup_table.proofs.SummaryLaws.{page-marks, summed-more, summed-past}
use Rattle.lookup_table.proofs.WriteLaws.{owns-same, own-page}
use Rattle.lookup_table.proofs.summary.renew_at.Goals as goal

pub returns-then-p-len-clause-summed : goal.returns-then-p-len-clause-summed
returns-then-p-len-clause-summed c = summed-past _ _ _ _ _ (omega (arith, c.if-p-len.true, c.len.ensures)) c.requires.summed

pub renew_words-requires-clause-own : goal.renew_words-requires-clause-own
renew_words-requires-clause-own c = own-page c.args.pages.now.items (c.args.q / 8) c.index_mut-page.result.now (omega (arith, c.if-p-len.false, c.len.ensures)) c.index_mut-page.ensures.value c.requires.own

pub renew_words-requires-clause-marks : goal.renew_words-requires-clause-marks
renew_words-requires-clause-marks c = page-marks _ _ _ _ _ _ _ _ c.requires.summed (omega (arith, c.if-p-len.false, c.len.ensures)) c.index_mut-page.ensures.value

pub returns-clause-summed : goal.returns-clause-summed
returns-clause-summed c = summed-more _ _ _ _ _ _ (omega (arith, c.if-p-len.false, c.len.ensures)) c.renew_words.ensures.marks c.requires.summed

pub returns-clause-own : goal.returns-clause-own
returns-clause-own c =
    owns-same c.args.pages.now.items (c.args.q / 8) c.index_mut-page.result.now _ c.index_mut-page.ensures.value
    (c.renew_words.ensures.own ∙ sym (own-page c.args.pages.now.items (c.args.q / 8) c.index_mut-page.result.now (omega (arith, c.if-p-len.false, c.len.ensures)) c.index_mut-page.ensures.value c.requires.own))
