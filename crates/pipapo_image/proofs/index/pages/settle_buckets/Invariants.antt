use Rattle.pipapo_image.specs.Index.Built.{EachChanged}
use Rattle.pipapo_image.specs.Index.Grow.{IsKept}
use Rattle.pipapo_image.proofs.index.pages.settle_buckets.Given as goal

abbrev pub invariant-fields : goal.invariant-fields
invariant-fields l = EachChanged IsKept l.initial.fields l.fields
