use Rattle.std.proofs.Common.{◌≡◌}
use Rattle.pipapo_image.specs.Index.Built.{EachChanged}
use Rattle.pipapo_image.proofs.index.pages.settle_spans.Given as goal

abbrev pub invariant-maps : goal.invariant-maps
invariant-maps l = EachChanged (λ a b. b.items ≡ a.items) l.initial.maps l.maps
