use Rattle.std.proofs.Common.{All}
use Rattle.set_model.specs.Runnable.{IsFitting}
use Rattle.reader_speed.proofs.course.packets.Given as goal

-- those so far fit the schema
abbrev pub invariant-loop-k : goal.invariant-loop-k
invariant-loop-k l = All (IsFitting l.schema) l.packets
