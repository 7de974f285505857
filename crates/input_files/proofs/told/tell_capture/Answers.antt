use Rattle.token_notes.specs.Shown.{Begins, byte_text}
use Rattle.token_notes.specs.declared.note.Note.{Note}
use Rattle.fault_notes.proofs.ToldLaws.{made-says}
use Rattle.input_files.proofs.told.tell_capture.Goals as goal

pub returns : goal.returns
returns g c = made-says c.capture_note.result (λ (n : Note). n.bytes.items) (Begins (byte_text c.args.name.now c.args.byte)) _ _ c.tell_note.ensures.says c.tell_note.ensures.nothing c.tell_note.ensures.says_no c.capture_note.ensures.byte
