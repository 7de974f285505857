use Rattle.fused_lookup.proofs.SmallLaws.{small-run, small-no-run}
use Rattle.std.proofs.Common.{◌≡◌, sym, arith, subst}
use Rattle.bit_rows.specs.Row.{with_run}
use Rattle.fused_lookup.specs.Words.{small_row}
use Rattle.fused_lookup.proofs.bits.with_ones.Goals as goal

pub returns-then-n-eq0 : goal.returns-then-n-eq0
returns-then-n-eq0 c = subst (λ n. small_row c.args.row ≡ with_run (small_row c.args.row) c.args.from n) (sym c.if-n-eq0.true) (small-no-run c.args.row c.args.from (omega (arith, c.requires)))

pub returns : goal.returns
returns c = small-run c.args.row c.args.from c.args.n (omega (arith, c.if-n-eq0.false)) c.requires
