use Rattle.addr_text.proofs.ValueLaws.{IsValue_unique}
use Rattle.addr_text.proofs.value.one_value_law.Goals as goal

pub returns : goal.returns
returns c = λ m n. IsValue_unique c.args._kind c.args._text.now m n
