use Rattle.std.proofs.Common.{◌≡◌, ◌∙◌, refl, ap, Ok, Some}
use Rattle.token_notes.specs.declared.note.Note.{Note}
use Rattle.token_notes.specs.Shown.{Begins, place_text}
use Rattle.token_notes.specs.OtherKind.{is_other_kind}
use Rattle.token_notes.specs.Source.{IsSaidAt, source_text}
use Rattle.fault_notes.specs.Told.{told_nothing}
use Rattle.fault_notes.proofs.ToldLaws.{made-says, if-ok-both}
use Rattle.input_files.specs.Noted.{IsPlacedBy}
use Rattle.input_files.proofs.told.tell_bad.Goals as goal

pub returns-in-Ok-Some : goal.returns-in-Ok-Some
returns-in-Ok-Some g c =
    let bad = c.in-Ok-Some.bad in
    made-says c.text_note.result (λ (n : Note). n.bytes.items) (IsPlacedBy c.args.kind c.args.found c.args.name.now c.args.text.now) _ _ c.tell_note.ensures.says c.tell_note.ensures.nothing c.tell_note.ensures.says_no
    (if-ok-both c.text_note.result (λ (n : Note). Begins (place_text c.args.name.now bad.line bad.column) n.bytes.items) (λ (n : Note). IsSaidAt (place_text c.args.name.now bad.line bad.column) (source_text c.args.text.now bad) (is_other_kind c.args.kind c.args.text.now bad) n.bytes.items)
    (λ (n : Note). IsPlacedBy c.args.kind c.args.found c.args.name.now c.args.text.now n.bytes.items)
    (λ n begins shows. record { bad = bad; is_found = let found : c.in-Ok-Some.field-0 ≡ Some bad = (rw c.in-Ok-Some.is at c.in-Ok-Some.field-0-is) in c.in-Ok-Some.is ∙ ap Ok found; is_on = record { begins = begins; shows = shows } })
    (search c.text_note.ensures.place) (search c.text_note.ensures.source))

pub returns-in_default : goal.returns-in_default
returns-in_default g c = told_nothing refl

pub returns-in_default-2 : goal.returns-in_default-2
returns-in_default-2 g c = told_nothing refl
