use Rattle.std.proofs.Common.{rules}
use Rattle.fault_notes.proofs.SourceLaws.{said_kind}
use Rattle.fault_notes.proofs.bad.told_as.Goals as goal

pub returns : goal.returns
returns c = λ lines. said_kind lines c.args.what.now c.end_line.new.self.bytes.items (search rules)
