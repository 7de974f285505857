use Rattle.std.proofs.Common.{◌≡◌, take, None}
use Rattle.std.specs.List.{find}
use Rattle.key_match.specs.Holders.{holds_many}
use Rattle.key_match.proofs.holders.first_with.Given as goal

-- none of the elements so far
abbrev pub invariant-elements : goal.invariant-elements
invariant-elements l = find (holds_many l.key l.now l.count) (take l.i l.elements) ≡ None
