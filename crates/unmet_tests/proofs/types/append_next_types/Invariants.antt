use Rattle.std.proofs.Common.{◌≡◌, ◌++◌, take, flat_map}
use Rattle.unmet_tests.specs.UnmetText.{next_type}
use Rattle.unmet_tests.proofs.types.append_next_types.Given as goal

abbrev pub invariant-loop-set : goal.invariant-loop-set
invariant-loop-set l = l.out.items ≡ l.fn.out.items ++ flat_map (next_type l.schema) (take l.set-index l.types)
