use Rattle.std.proofs.Common.{◌≡◌, map, Some}
use Rattle.reader_tests.proofs.packets.at_places.Given as goal

abbrev pub invariant-loop-reader : goal.invariant-loop-reader
invariant-loop-reader l = l.places.items ≡ map Some l.yielded
