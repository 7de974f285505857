use Rattle.std.proofs.Common.{◌≡◌, ◌++◌, take, flat_map}
use Rattle.unmet_tests.specs.UnmetText.{next_kind}
use Rattle.unmet_tests.proofs.types.append_next_kinds.Given as goal

abbrev pub invariant-loop-kind : goal.invariant-loop-kind
invariant-loop-kind l = l.out.items ≡ l.fn.out.items ++ flat_map next_kind (take l.kind-index l.kinds)
