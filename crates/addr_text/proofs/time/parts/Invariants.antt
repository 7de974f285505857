use Rattle.std.proofs.Common.{◌≡◌, ◌*◌, ◌≤◌, ◌^◌, drop}
use Rattle.addr_text.specs.TimesRead.{time_parts}
use Rattle.addr_text.specs.TimesView.{unit_views, IsAhead}
use Rattle.addr_text.proofs.time.parts.Given as goal

abbrev pub invariant-loop-unit : goal.invariant-loop-unit
invariant-loop-unit l =
    (time_parts (unit_views l.units) 0 l.text ≡ time_parts (unit_views (drop l.unit-index l.units)) l.reading.total l.reading.rest.now)
    × IsAhead l.reading
    × (l.reading.total ≤ l.unit-index * 2 ^ 96)
