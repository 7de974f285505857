use Rattle.std.specs.Prelude.{codes}
use Rattle.token_notes.specs.Shown.{Begins, name_text}
use Rattle.token_notes.specs.declared.note.Note.{Note}
use Rattle.fault_notes.proofs.ToldLaws.{made-says}
use Rattle.top_call.proofs.words_told.tell_words.Goals as goal

pub returns : goal.returns
returns g c = made-says c.words_note.result (λ (n : Note). n.bytes.items) (Begins (name_text (codes "pipapo"))) _ _ c.tell_note.ensures.says c.tell_note.ensures.nothing c.tell_note.ensures.says_no c.words_note.ensures.name
