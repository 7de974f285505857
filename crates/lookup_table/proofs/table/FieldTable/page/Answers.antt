use Rattle.std.proofs.Common.{◌*◌, ◌/◌, arith}
use Rattle.lookup_table.proofs.SummaryLaws.{rule-room}
use Rattle.lookup_table.proofs.table.FieldTable.page.Goals as goal

pub page-requires : goal.page-requires
page-requires c = rule-room _ _ _ (512 * (c.args.i / 8)) _ c.args.self.now.shaped (omega (arith, c.requires))
