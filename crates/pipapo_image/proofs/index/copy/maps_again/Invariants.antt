use Rattle.pipapo_image.specs.Index.Copied.{AreMapsAgain}
use Rattle.pipapo_image.proofs.index.copy.maps_again.Given as goal

abbrev pub invariant-maps : goal.invariant-maps
invariant-maps l = AreMapsAgain l.maps l.others l.f
