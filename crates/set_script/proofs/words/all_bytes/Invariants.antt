use Rattle.std.proofs.Common.{◌≡◌, ◌≤◌, ◌*◌, sum_by, take}
use Rattle.set_script.specs.Names.{key_bytes}
use Rattle.set_script.proofs.words.all_bytes.Given as goal

abbrev pub invariant-loop-kind : goal.invariant-loop-kind
invariant-loop-kind l = record {
  same : l.sum ≡ sum_by key_bytes (take l.kind-index l.kinds);
  within : l.sum ≤ 16 * l.kind-index;
}
