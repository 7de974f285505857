use Rattle.field_groups.proofs.ShareLaws.{share-held}
use Rattle.field_groups.proofs.laws.shared_is_held.Goals as goal

pub returns : goal.returns
returns c = share-held
