use Rattle.std.proofs.Common.{◌≡◌, ◌++◌, ◌-◌, ◌*◌, length, take}
use Rattle.std.specs.Prelude.{slice_get, Some}
use Rattle.history_laws.specs.Histories.{EndsWith}
use Rattle.set_model.specs.Control.{Generation}
use Rattle.set_model.specs.SetState.{State}
use Rattle.packed_values.specs.Packed.{packed_length}
use Rattle.c_handles.specs.Calls.{ids_in}
use Rattle.c_handles.proofs.seat.find_all.Given as goal

-- the ids so far and those of the keys that are left are those of all keys
abbrev pub invariant-keys : goal.invariant-keys
invariant-keys l = record {
  room : l.room ≡ l.fn.room;
  held : l.held ≡ l.fn.held;
  count : length l.ids ≡ l.i-end;
  size : l.size ≡ packed_length l.fn.room;
  left : length l.rest ≡ (length l.ids - l.i) * l.size;
  ids : (g : Generation) → EndsWith l.fn.held.seen g → (s : State) → slice_get g.sets l.set ≡ Some s → take l.i l.ids ++ ids_in s l.fn.room l.size l.now (length l.ids - l.i) l.rest ≡ ids_in s l.fn.room l.size l.now (length l.ids) l.bytes;
}
