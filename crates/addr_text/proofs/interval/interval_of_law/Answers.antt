use Rattle.addr_text.proofs.IntervalLaws.{interval_of_sound, interval_of_complete}
use Rattle.addr_text.proofs.interval.interval_of_law.Goals as goal

pub returns : goal.returns
returns c = λ x. (interval_of_complete c.args._kind c.args._text.now x, interval_of_sound c.args._kind c.args._text.now x)
