use Rattle.std.proofs.Common.{◌∙◌, sym, ◌/◌, refl, arith}
use Rattle.lookup_table.proofs.SummaryLaws.{no-page, keeps-none, keeps-page, page-marked, pages-page, page-is}
use Rattle.lookup_table.proofs.WriteLaws.{owns-same, own-page}
use Rattle.lookup_table.proofs.summary.set_mark.Goals as goal

pub returns-then-p-len-clause-kept : goal.returns-then-p-len-clause-kept
returns-then-p-len-clause-kept c = keeps-none _

pub returns-then-p-len-clause-marked : goal.returns-then-p-len-clause-marked
returns-then-p-len-clause-marked c = no-page _ _ _ _ (omega (arith, c.if-p-len.true, c.len.ensures))

pub mark_block-requires-clause-own : goal.mark_block-requires-clause-own
mark_block-requires-clause-own c = own-page c.args.pages.now.items (c.args.m / 64) c.index_mut-page.result.now (omega (arith, c.if-p-len.false, c.len.ensures)) c.index_mut-page.ensures.value c.requires.own

pub mark_block-requires-clause-page : goal.mark_block-requires-clause-page
mark_block-requires-clause-page c = page-is _ _ (c.args.m / 64) c.index_mut-page.result.now (omega (arith, c.if-p-len.false, c.len.ensures)) c.index_mut-page.ensures.value c.requires.pages

pub returns-clause-kept : goal.returns-clause-kept
returns-clause-kept c = keeps-page _ _ _ _ _ _ _ (omega (arith, c.if-p-len.false, c.len.ensures)) c.index_mut-page.ensures.value c.mark_block.ensures.marked

pub returns-clause-pages : goal.returns-clause-pages
returns-clause-pages c = pages-page _ _ _ (keeps-page _ _ _ _ _ _ _ (omega (arith, c.if-p-len.false, c.len.ensures)) c.index_mut-page.ensures.value c.mark_block.ensures.marked) c.requires.pages

pub returns-clause-marked : goal.returns-clause-marked
returns-clause-marked c = page-marked _ _ _ _ _ c.index_mut-page.result.now _ refl (omega (arith, c.if-p-len.false, c.len.ensures)) c.mark_block.ensures.marked

pub returns-clause-own : goal.returns-clause-own
returns-clause-own c =
    owns-same c.args.pages.now.items (c.args.m / 64) c.index_mut-page.result.now _ c.index_mut-page.ensures.value
    (c.mark_block.ensures.own ∙ sym (own-page c.args.pages.now.items (c.args.m / 64) c.index_mut-page.result.now (omega (arith, c.if-p-len.false, c.len.ensures)) c.index_mut-page.ensures.value c.requires.own))
