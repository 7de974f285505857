use Rattle.field_groups.proofs.RunLaws.{agrees-run}
use Rattle.field_groups.proofs.laws.agreeing_run.Goals as goal

pub returns : goal.returns
returns c = agrees-run
