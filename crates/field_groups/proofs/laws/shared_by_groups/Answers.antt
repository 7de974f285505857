use Rattle.field_groups.proofs.ShareLaws.{groups-share}
use Rattle.field_groups.proofs.laws.shared_by_groups.Goals as goal

pub returns : goal.returns
returns c = groups-share
