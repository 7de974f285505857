use Rattle.std.proofs.Common.{refl, replicate, arith}
use Rattle.expiry_scan.proofs.EndLaws.{ends_past, ends_forgotten}
use Rattle.expiry_scan.proofs.timed.forget.Goals as goal

pub returns-then-page-len : goal.returns-then-page-len
returns-then-page-len c = λ p elements others are differ. ends_forgotten p c.args.i elements others c.args.ends.now.items are differ (record { all = 0; staying = 0; left = replicate 8 0 }) refl refl

pub returns-else-page-len : goal.returns-else-page-len
returns-else-page-len c = λ p elements others are differ. ends_past p c.args.i elements others c.args.ends.now.items are differ (omega (arith, c.if-page-len.false, c.len.ensures))
