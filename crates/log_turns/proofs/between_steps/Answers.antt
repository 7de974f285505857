use Rattle.log_turns.proofs.Turns.{at_most_16, seat_keeps}
use Rattle.log_turns.proofs.between_steps.Goals as goal

pub returns : goal.returns
returns g c = record {
  tickets = λ log base number clerk each bound s k. (k.queue, at_most_16 log base number clerk each bound s k);
  logs = λ log base number clerk each bound s k. (seat_keeps log base number clerk each bound s k, k.named, k.clerks, k.one_each);
}
