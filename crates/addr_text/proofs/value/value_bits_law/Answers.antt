use Rattle.addr_text.proofs.FitLaws.{IsValue-fits}
use Rattle.addr_text.proofs.value.value_bits_law.Goals as goal

pub returns : goal.returns
returns c = λ n. IsValue-fits c.args._kind c.args._text.now n
