use Rattle.std.proofs.Common.{◌≡◌, ◌≤◌, take}
use Rattle.std.specs.List.{count_by}
use Rattle.gen_slots.specs.SlotMachine.{is_slot}
use Rattle.gen_slots.proofs.machine.SlotCore.holders.Given as goal

abbrev pub invariant-loop-held : goal.invariant-loop-held
invariant-loop-held l = (l.count ≡ count_by (is_slot l.slot) (take l.held-index l.held-items)) × (l.count ≤ l.held-index)
