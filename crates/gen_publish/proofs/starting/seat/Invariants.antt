use Rattle.std.proofs.Common.{◌≡◌, map}
use Rattle.std.specs.Arc.{arc_value}
use Rattle.gen_publish.specs.Publish.{reader_view}
use Rattle.gen_publish.proofs.starting.seat.Given as goal

-- the readers so far
abbrev pub invariant-passes : goal.invariant-passes
invariant-passes l = l.readers.items ≡ map (reader_view (arc_value l.schema)) l.yielded
