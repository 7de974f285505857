use Rattle.field_groups.proofs.HalfLaws.{agrees-halves}
use Rattle.field_groups.proofs.laws.agreeing_halves.Goals as goal

pub returns : goal.returns
returns c = agrees-halves
