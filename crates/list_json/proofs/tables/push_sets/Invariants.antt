use Rattle.std.proofs.Common.{◌≡◌, ◌++◌, map, take}
use Rattle.std.specs.List.{zip}
use Rattle.serde_json.specs.View.{view}
use Rattle.set_report.specs.ListText.{sets_beside}
use Rattle.list_json.specs.JsonSets.{set_data}
use Rattle.list_json.proofs.tables.push_sets.Given as goal

abbrev pub invariant-sets : goal.invariant-sets
invariant-sets l = map view l.values.items ≡ map view l.initial.values.items ++ map (set_data l.now) (sets_beside l.first (take l.place (zip l.schema l.generation.sets)))
