-- What contracts see of the program's parts and units.
use Rattle.std.specs.Prelude.{◌≡◌, ℕ, List, map, option_map}
use Rattle.addr_text.specs.declared.time.Part.{Part}
use Rattle.addr_text.specs.declared.time.Reading.{Reading}
use Rattle.addr_text.specs.declared.time.Unit.{Unit as TimeUnit}
use Rattle.addr_text.specs.TimesRead.{TimePart, time_part}

abbrev pub part_view : Part → TimePart
part_view p = record { count = p.count; name = p.name.now; behind = p.behind.now }

-- the units as names and milliseconds
abbrev pub unit_views : List TimeUnit → List (List ℕ × ℕ)
unit_views us = map (λ u. (u.name.now, u.ms)) us

-- the part of a reading is the first part of its text
abbrev pub IsAhead : Reading → Type 0
IsAhead r = option_map part_view r.part ≡ time_part r.rest.now
