use Rattle.field_groups.proofs.RunLaws.{fixed-mask}
use Rattle.field_groups.proofs.laws.fixed_by_mask.Goals as goal

pub returns : goal.returns
returns c = fixed-mask
