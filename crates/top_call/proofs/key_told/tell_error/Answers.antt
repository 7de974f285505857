use Rattle.std.specs.Prelude.{codes}
use Rattle.std.proofs.Common.{refl}
use Rattle.token_notes.specs.Shown.{BeginsAtPlace}
use Rattle.fault_notes.specs.Told.{told_nothing}
use Rattle.token_notes.specs.declared.note.Note.{Note}
use Rattle.fault_notes.proofs.ToldLaws.{made-says}
use Rattle.top_call.proofs.key_told.tell_error.Goals as goal

pub returns-in-BadKey : goal.returns-in-BadKey
returns-in-BadKey g c =
    rw c.in-BadKey.is
    (made-says c.key_note.result (λ (n : Note). n.bytes.items) (BeginsAtPlace (codes "key")) _ _ c.tell_note.ensures.says c.tell_note.ensures.nothing c.tell_note.ensures.says_no c.key_note.ensures)

pub returns-in-Memory : goal.returns-in-Memory
returns-in-Memory g c = told_nothing refl
