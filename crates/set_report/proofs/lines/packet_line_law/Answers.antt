use Rattle.set_report.proofs.PacketLineLaws.{one_line}
use Rattle.set_report.proofs.lines.packet_line_law.Goals as goal

pub returns : goal.returns
returns c = one_line
