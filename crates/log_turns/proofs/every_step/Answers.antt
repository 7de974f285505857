use Rattle.log_turns.proofs.Turns.{draws, looks, ends}
use Rattle.log_turns.proofs.Opening.{opens, deals, gathers}
use Rattle.log_turns.proofs.every_step.Goals as goal

pub returns : goal.returns
returns g c = record { opening = opens; draw = draws; look = looks; done = ends; split = deals; join = gathers }
