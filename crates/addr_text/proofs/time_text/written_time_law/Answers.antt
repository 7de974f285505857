use Rattle.addr_text.proofs.WrittenLaws.{IsTime-time_text}
use Rattle.addr_text.proofs.time_text.written_time_law.Goals as goal

pub returns : goal.returns
returns c = IsTime-time_text c.args._ms c.requires
