use Rattle.token_notes.specs.Shown.{Begins, name_text}
use Rattle.token_notes.specs.declared.note.Note.{Note}
use Rattle.fault_notes.proofs.ToldLaws.{made-says}
use Rattle.input_files.proofs.told.tell_too_large.Goals as goal

pub returns : goal.returns
returns g c = made-says c.too_large_note.result (λ (n : Note). n.bytes.items) (Begins (name_text c.args.name.now)) _ _ c.tell_note.ensures.says c.tell_note.ensures.nothing c.tell_note.ensures.says_no c.too_large_note.ensures.name
