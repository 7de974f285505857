use Rattle.std.proofs.Common.{◌≡◌, map}
use Rattle.c_handles.specs.Starting.{seated}
use Rattle.c_handles.proofs.starting.seat_all.Given as goal

-- the boxes so far
abbrev pub invariant-readers : goal.invariant-readers
invariant-readers l = map (λ b. b.value) l.boxes.items ≡ map seated l.yielded
