use Rattle.std.proofs.Common.{arith}
use Rattle.set_report.proofs.DumpBits.{byte-is}
use Rattle.set_report.proofs.dump.bitmap.byte_at.Goals as goal

pub returns : goal.returns
returns c = search (arith, byte-is c.args.row.now.bits c.args.j c.word.result c.word.ensures)
