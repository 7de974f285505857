use Rattle.std.proofs.Common.{rules}
use Rattle.gen_turns.proofs.making.lay.Goals as goal

pub returns : goal.returns
returns g c = (c.loop.places, search rules, search rules)
