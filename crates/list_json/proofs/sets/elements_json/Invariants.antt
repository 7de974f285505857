use Rattle.std.proofs.Common.{◌≡◌, map, take}
use Rattle.serde_json.specs.View.{view}
use Rattle.list_json.specs.JsonSets.{elements_data}
use Rattle.list_json.proofs.sets.elements_json.Given as goal

abbrev pub invariant-elements : goal.invariant-elements
invariant-elements l = map view l.values.items ≡ elements_data l.set l.now (take l.i l.elements)
