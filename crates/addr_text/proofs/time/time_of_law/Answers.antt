use Rattle.addr_text.proofs.TimeLaws.{time_of_sound, time_of_complete}
use Rattle.addr_text.proofs.time.time_of_law.Goals as goal

pub returns : goal.returns
returns c = λ n. (time_of_complete c.args._text.now n, time_of_sound c.args._text.now n)
