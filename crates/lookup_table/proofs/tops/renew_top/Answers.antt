use Rattle.std.proofs.Common.{◌∙◌, sym, ◌/◌, arith}
use Rattle.lookup_table.proofs.TopLaws.{top-renewed}
use Rattle.lookup_table.proofs.WriteLaws.{owns-same, own-page}
use Rattle.lookup_table.proofs.tops.renew_top.Goals as goal

pub returns-clause-renewed : goal.returns-clause-renewed
returns-clause-renewed c =
    top-renewed c.args.p c.args.pages.now c.args.tops.now.items c.index_mut-top.result.now c.mark_from.new.top (omega (arith, c.if-q-len.false, c.len.ensures)) c.index_mut-top.ensures.value c.mark_from.ensures.renewed

pub returns-clause-own : goal.returns-clause-own
returns-clause-own c =
    owns-same c.args.tops.now.items (c.args.p / 64) c.index_mut-top.result.now _ c.index_mut-top.ensures.value
    (c.mark_from.ensures.own ∙ sym (own-page c.args.tops.now.items (c.args.p / 64) c.index_mut-top.result.now (omega (arith, c.if-q-len.false, c.len.ensures)) c.index_mut-top.ensures.value c.requires.own))
