use Rattle.field_groups.proofs.GroupLaws.{groups-hold}
use Rattle.field_groups.proofs.laws.held_by_groups.Goals as goal

pub returns : goal.returns
returns c = groups-hold
