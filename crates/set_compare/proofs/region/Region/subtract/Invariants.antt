use Rattle.set_compare.proofs.RegionLaws.{AreSplit}
use Rattle.set_compare.proofs.region.Region.subtract.Given as goal

abbrev pub invariant-fields : goal.invariant-fields
invariant-fields l = AreSplit l.f l.element l.fn.self l.fn.rest.items l.self l.rest.items
