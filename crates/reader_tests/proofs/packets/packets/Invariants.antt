use Rattle.std.proofs.Common.{◌≡◌, All, length}
use Rattle.set_model.specs.Runnable.{IsFitting}
use Rattle.reader_tests.proofs.packets.packets.Given as goal

-- those so far fit the schema
abbrev pub invariant-loop : goal.invariant-loop
invariant-loop l = All (IsFitting l.schema) l.packets × (length l.packets ≡ l.counter)
