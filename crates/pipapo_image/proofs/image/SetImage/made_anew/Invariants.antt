use Rattle.std.proofs.Common.{◌≡◌}
use Rattle.pipapo_image.proofs.Purging.{kept}
use Rattle.pipapo_image.proofs.image.SetImage.made_anew.Given as goal

abbrev pub invariant-elements : goal.invariant-elements
invariant-elements l = l.kept ≡ kept l.self l.now l.i
