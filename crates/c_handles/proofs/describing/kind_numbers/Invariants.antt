use Rattle.std.proofs.Common.{◌≡◌, length, map, take}
use Rattle.c_handles.specs.Shapes.{kind_numbered}
use Rattle.c_handles.proofs.describing.kind_numbers.Given as goal

-- the numbers of the kinds so far
abbrev pub invariant-fields : goal.invariant-fields
invariant-fields l = record {
  count : length l.numbers ≡ 16;
  kinds : map kind_numbered (take l.i l.numbers) ≡ take l.i l.kinds;
}
