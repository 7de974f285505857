use Rattle.history_laws.proofs.Prefixes.{longer_begins}
use Rattle.history_laws.proofs.prefixes_of_one.Goals as goal

pub returns : goal.returns
returns g c = longer_begins
