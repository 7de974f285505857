use Rattle.std.proofs.Common.{[], ◌∷◌}
use Rattle.set_compare.specs.Search.{IsSearched, AllFit, total_volume}
use Rattle.set_compare.proofs.search.Search.look_up.Given as goal

abbrev pub invariant-regions : goal.invariant-regions
invariant-regions l = record {
  searched : IsSearched l.other l.now l.fn.self.least (l.parts ∷ []) l.self.least l.self.rest.items;
  fit : AllFit l.other.kinds l.self.rest.items;
}

abbrev pub decreases-regions : goal.decreases-regions
decreases-regions l = total_volume l.self.rest.items
