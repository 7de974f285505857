use Rattle.addr_text.proofs.WrittenLaws.{IsValue-value_text}
use Rattle.addr_text.proofs.value_text.written_value_law.Goals as goal

pub returns : goal.returns
returns c = IsValue-value_text c.args._kind c.args._value c.requires
