use Rattle.set_tables.proofs.SharingLaws.{splits-share}
use Rattle.set_tables.proofs.laws.share_law.Goals as goal

pub returns : goal.returns
returns c = splits-share
