use Rattle.std.proofs.Common.{◌≡◌, ◌+◌, ◌++◌, length, map, take, Some}
use Rattle.c_handles.proofs.starting.seat_in.Given as goal

-- the first handles have the first boxes, and the others are left
abbrev pub invariant-readers : goal.invariant-readers
invariant-readers l = (length l.seats.items + l.handle-index ≡ length l.readers) × (map (λ h. h.held) (take l.handle-index l.readers) ++ map (λ b. Some b.value) l.seats.items ≡ map (λ b. Some b.value) l.initial.seats.items)
