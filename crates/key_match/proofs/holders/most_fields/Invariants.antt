use Rattle.std.proofs.Common.{◌≡◌, take}
use Rattle.key_match.specs.Holders.{most_fields}
use Rattle.key_match.proofs.holders.most_fields.Given as goal

-- the elements so far
abbrev pub invariant-elements : goal.invariant-elements
invariant-elements l = l.most ≡ most_fields l.key l.now (take l.i l.elements)
