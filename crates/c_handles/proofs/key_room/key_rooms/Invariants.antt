use Rattle.std.proofs.Common.{◌≡◌, take}
use Rattle.gen_publish.specs.Publish.{declared_kinds}
use Rattle.c_handles.proofs.key_room.key_rooms.Given as goal

-- the kinds of the sets so far
abbrev pub invariant-sets : goal.invariant-sets
invariant-sets l = l.rooms.items ≡ declared_kinds (take l.set-index l.set-items)
