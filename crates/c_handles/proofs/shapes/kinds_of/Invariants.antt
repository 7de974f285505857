use Rattle.std.proofs.Common.{◌≡◌, map, take}
use Rattle.c_handles.specs.Shapes.{kind_numbered}
use Rattle.c_handles.proofs.shapes.kinds_of.Given as goal

-- the kinds so far
abbrev pub invariant-fields : goal.invariant-fields
invariant-fields l = l.kinds ≡ map kind_numbered (take l.number-index l.numbers)
