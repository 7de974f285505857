use Rattle.fault_notes.specs.Told.{note, did_tell}
use Rattle.fault_notes.proofs.told.tell_note.Goals as goal

pub returns-in-Ok-clause-told : goal.returns-in-Ok-clause-told
returns-in-Ok-clause-told g c = rw c.in-Ok.is (note c.as_slice.result.now c.as_slice.ensures.quiet c.as_slice.ensures.bytes c.tell.ensures)

pub returns-in-Ok-clause-says : goal.returns-in-Ok-clause-says
returns-in-Ok-clause-says g c = rw c.in-Ok.is (did_tell c.as_slice.result.now c.as_slice.ensures.quiet c.as_slice.ensures.bytes c.tell.ensures)
