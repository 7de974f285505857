use Rattle.addr_text.proofs.TimeLaws.{IsTime_unique}
use Rattle.addr_text.proofs.time.one_time_law.Goals as goal

pub returns : goal.returns
returns c = λ m n. IsTime_unique c.args._text.now m n
