use Rattle.std.proofs.Common.{◌≡◌, ℕ, List, ◌++◌, take}
use Rattle.fault_notes.specs.Refusals.{AreRefusalLines}
use Rattle.fault_notes.proofs.refusals.add_changes.Given as goal

-- the changes so far have their lines
abbrev pub invariant-loop-change : goal.invariant-loop-change
invariant-loop-change l = (lines : List ℕ) × AreRefusalLines l.name (take l.change-index l.changes) lines × (l.note.bytes.items ≡ l.initial.note.bytes.items ++ lines)
