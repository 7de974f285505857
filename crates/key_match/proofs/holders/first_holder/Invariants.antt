use Rattle.std.proofs.Common.{◌≡◌, take, None}
use Rattle.std.specs.List.{find}
use Rattle.set_model.specs.SetState.{holds}
use Rattle.key_match.proofs.holders.first_holder.Given as goal

-- none of the elements so far
abbrev pub invariant-elements : goal.invariant-elements
invariant-elements l = find (λ e. holds e l.key) (take l.i l.elements) ≡ None
