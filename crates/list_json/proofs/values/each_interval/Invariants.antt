use Rattle.std.proofs.Common.{◌≡◌, map, take}
use Rattle.std.specs.List.{zip}
use Rattle.serde_json.specs.View.{view}
use Rattle.list_json.specs.JsonValues.{interval_data}
use Rattle.list_json.proofs.values.each_interval.Given as goal

abbrev pub invariant-fields : goal.invariant-fields
invariant-fields l = map view l.values.items ≡ map (λ p. interval_data p.0 p.1) (take l.field (zip l.kinds l.parts))
