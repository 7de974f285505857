use Rattle.top_call.proofs.FormLaws.{promises-in}
use Rattle.top_call.proofs.command.pipapo.Goals as goal

pub returns : goal.returns
returns g c = promises-in c.args.forms.scripts _ c.carry_out.ensures
