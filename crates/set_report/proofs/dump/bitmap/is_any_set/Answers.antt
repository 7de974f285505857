use Rattle.std.proofs.Common.{◌∙◌}
use Rattle.set_report.proofs.DumpBits.{any-is}
use Rattle.set_report.proofs.dump.bitmap.is_any_set.Goals as goal

pub returns : goal.returns
returns c = c.is_some.ensures ∙ any-is c.args.row.now.bits c.next_set.result c.next_set.ensures
