use Rattle.std.proofs.Common.{◌≡◌, map, take}
use Rattle.serde_json.specs.View.{view}
use Rattle.list_json.specs.JsonSets.{kind_data}
use Rattle.list_json.proofs.sets.kinds_json.Given as goal

abbrev pub invariant-kinds : goal.invariant-kinds
invariant-kinds l = map view l.values.items ≡ map kind_data (take l.kind-index l.kinds)
