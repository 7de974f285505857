use Rattle.std.proofs.Common.{◌≡◌, None, [], take}
use Rattle.set_compare.specs.Search.{IsSearched, live_regions}
use Rattle.set_compare.proofs.missing.least_missing.Given as goal

abbrev pub invariant-elements : goal.invariant-elements
invariant-elements l = record {
  searched : IsSearched l.other l.other_at None (live_regions (take l.i l.held.elements) l.at) l.search.least [];
  done : l.search.rest.items ≡ [];
}
