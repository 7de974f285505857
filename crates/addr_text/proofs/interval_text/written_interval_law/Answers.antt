use Rattle.addr_text.proofs.WrittenLaws.{IsInterval-interval_text}
use Rattle.addr_text.proofs.interval_text.written_interval_law.Goals as goal

pub returns : goal.returns
returns c = IsInterval-interval_text c.args._kind c.args._part c.requires
