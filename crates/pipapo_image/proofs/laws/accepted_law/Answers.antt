use Rattle.pipapo_image.proofs.AcceptedLaws.{shows-accepted}
use Rattle.pipapo_image.proofs.laws.accepted_law.Goals as goal

pub returns : goal.returns
returns c = shows-accepted
