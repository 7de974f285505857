use Rattle.gen_slots.proofs.RunningWords.{counts, holds_safely, seats}
use Rattle.gen_slots.proofs.laws.running_words.Goals as goal

pub returns : goal.returns
returns g c = record { counts = counts g.T.Version.state g.T.Version.follows; no_refill = holds_safely g.T.Version.state g.T.Version.follows; seats = seats g.T.Version.state g.T.Version.follows }
