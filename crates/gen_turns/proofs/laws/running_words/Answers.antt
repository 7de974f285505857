use Rattle.gen_turns.proofs.RunningTurns.{queues, hands_on, seats}
use Rattle.gen_turns.proofs.laws.running_words.Goals as goal

pub returns : goal.returns
returns g c = record { tickets = queues g.T.Version.state g.T.Version.follows; vector = hands_on g.T.Version.state g.T.Version.follows; seats = seats g.T.Version.state g.T.Version.follows }
