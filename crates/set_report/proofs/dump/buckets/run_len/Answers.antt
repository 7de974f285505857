use Rattle.std.proofs.Common.{◌≡◌, sym, ◌∙◌, false, true, below_more}
use Rattle.set_report.proofs.DumpRuns.{at-bits, same-Decides}
use Rattle.set_report.proofs.dump.buckets.run_len.Goals as goal

pub returns-then-not-is_same-clause-other : goal.returns-then-not-is_same-clause-other
returns-then-not-is_same-clause-other c = λ h e.
    let same = sym (at-bits c.args.rows.now c.args.from c.row_at-first.result.now c.row_at-first.ensures) ∙ sym e ∙ at-bits c.args.rows.now _ c.row_at-row.result.now c.row_at-row.ensures in
    let told : false ≡ true = c.if-not-is_same.ensures ∙ (same-Decides c.row_at-first.result.now.bits c.row_at-row.result.now.bits).1 same in
    cc

pub loop-n-preserved : goal.loop-n-preserved
loop-n-preserved c = below_more _ _ c.loop-n.invariant
    (at-bits c.args.rows.now _ c.row_at-row.result.now c.row_at-row.ensures
    ∙ sym ((same-Decides c.row_at-first.result.now.bits c.row_at-row.result.now.bits).0 (sym c.if-not-is_same.ensures))
    ∙ sym (at-bits c.args.rows.now c.args.from c.row_at-first.result.now c.row_at-first.ensures))
