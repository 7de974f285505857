use Rattle.std.proofs.Common.{◌≡◌, ◌++◌, map, flat_map, take}
use Rattle.std.specs.List.{zip}
use Rattle.serde_json.specs.View.{view}
use Rattle.set_report.specs.ListText.{first_sets}
use Rattle.list_json.specs.JsonSets.{table_and_sets}
use Rattle.list_json.proofs.tables.push_tables.Given as goal

abbrev pub invariant-tables : goal.invariant-tables
invariant-tables l = map view l.values.items ≡ map view l.initial.values.items ++ flat_map (table_and_sets (zip l.schema l.generation.sets) l.now) (first_sets (take l.place l.schema))
