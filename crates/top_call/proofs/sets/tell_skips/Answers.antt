use Rattle.std.proofs.Common.{◌∙◌, refl}
use Rattle.fault_notes.specs.Told.{did_tell, told_nothing}
use Rattle.top_call.proofs.sets.tell_skips.Goals as goal

pub returns-then-is_empty : goal.returns-then-is_empty
returns-then-is_empty g c = told_nothing refl

pub returns-in-Ok : goal.returns-in-Ok
returns-in-Ok g c = did_tell c.as_slice.result.now c.as_slice.ensures.quiet (c.as_slice.ensures.bytes ∙ c.in-Ok.ensures) c.tell.ensures

pub returns-in-Err : goal.returns-in-Err
returns-in-Err g c = told_nothing refl
