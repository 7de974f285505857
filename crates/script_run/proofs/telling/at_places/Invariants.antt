use Rattle.std.proofs.Common.{◌≡◌, map, Some}
use Rattle.script_run.proofs.telling.at_places.Given as goal

abbrev pub invariant-loop-reader : goal.invariant-loop-reader
invariant-loop-reader l = l.all.items ≡ map Some l.yielded
