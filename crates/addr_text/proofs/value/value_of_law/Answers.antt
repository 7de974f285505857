use Rattle.addr_text.proofs.ValueLaws.{value_of_sound, value_of_complete}
use Rattle.addr_text.proofs.value.value_of_law.Goals as goal

pub returns : goal.returns
returns c = λ n. (value_of_complete c.args._kind c.args._text.now n, value_of_sound c.args._kind c.args._text.now n)
