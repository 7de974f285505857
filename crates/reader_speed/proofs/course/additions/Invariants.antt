use Rattle.std.proofs.Common.{All}
use Rattle.set_model.specs.Runnable.{IsRunnableStep}
use Rattle.reader_speed.proofs.course.additions.Given as goal

-- those so far fit the schema
abbrev pub invariant-loop-element : goal.invariant-loop-element
invariant-loop-element l = All (IsRunnableStep l.schema) l.steps
