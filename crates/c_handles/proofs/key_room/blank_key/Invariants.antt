use Rattle.std.proofs.Common.{◌-◌, ◌≤◌, length}
use Rattle.c_handles.proofs.key_room.blank_key.Given as goal

-- not too many values so far
abbrev pub invariant-fields : goal.invariant-fields
invariant-fields l = length l.key ≤ l.fields

abbrev pub decreases-fields : goal.decreases-fields
decreases-fields l = l.fields - length l.key
