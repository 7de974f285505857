use Rattle.std.proofs.Common.{◌≡◌, ◌≤◌, length, take, filter}
use Rattle.set_model.specs.Expiry.{live}
use Rattle.key_match.proofs.holders.count_live.Given as goal

-- the elements so far
abbrev pub invariant-elements : goal.invariant-elements
invariant-elements l = record {
  count : l.count ≡ length (filter (λ e. live e l.now) (take l.i l.elements));
  few : l.count ≤ l.i;
}
