use Rattle.set_tables.proofs.CoverLaw.{blocks-cover}
use Rattle.set_tables.proofs.laws.cover_law.Goals as goal

pub returns : goal.returns
returns c = blocks-cover
