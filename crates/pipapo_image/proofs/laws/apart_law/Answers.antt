use Rattle.pipapo_image.proofs.ApartLaws.{keeps-apart}
use Rattle.pipapo_image.proofs.laws.apart_law.Goals as goal

pub returns : goal.returns
returns c = keeps-apart
