use Rattle.gen_slots.proofs.EventLaws.{every_run_sound}
use Rattle.gen_slots.proofs.machine.every_run.Goals as goal

pub returns : goal.returns
returns c = every_run_sound
