use Rattle.std.proofs.Common.{◌≡◌, true}
use Rattle.std.specs.Prelude.{All}
use Rattle.set_model.specs.Key.{key_fits}
use Rattle.pipapo_speed.proofs.workload.keys_of.Given as goal

abbrev pub invariant-keys : goal.invariant-keys
invariant-keys l = All (λ key. key_fits l.kinds key ≡ true) l.list.items
