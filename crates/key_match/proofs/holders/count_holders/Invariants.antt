use Rattle.std.proofs.Common.{◌≡◌, ◌≤◌, ◌&&◌, length, take, filter}
use Rattle.set_model.specs.Expiry.{live}
use Rattle.key_match.specs.Holders.{holds_field}
use Rattle.key_match.proofs.holders.count_holders.Given as goal

-- the elements so far
abbrev pub invariant-elements : goal.invariant-elements
invariant-elements l = record {
  count : l.count ≡ length (filter (λ e. live e l.now && holds_field e (l.field, l.value)) (take l.i l.elements));
  few : l.count ≤ l.i;
}
