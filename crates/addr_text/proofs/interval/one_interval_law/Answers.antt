use Rattle.addr_text.proofs.IntervalLaws.{IsInterval_unique}
use Rattle.addr_text.proofs.interval.one_interval_law.Goals as goal

pub returns : goal.returns
returns c = λ x y. IsInterval_unique c.args._kind c.args._text.now x y
