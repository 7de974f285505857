use Rattle.std.proofs.Common.{◌≡◌, ◌∙◌, refl, ap, Ok, Some}
use Rattle.token_notes.specs.declared.note.Note.{Note}
use Rattle.fault_notes.specs.Told.{told_nothing}
use Rattle.fault_notes.proofs.ToldLaws.{made-says, if-ok-as}
use Rattle.key_file.specs.Keys.{key_file as key_form}
use Rattle.token_notes.specs.declared.help.TextKind.TheVariants as kinds
use Rattle.input_files.specs.Noted.{IsNoteFrom, IsNotedFrom}
use Rattle.input_files.proofs.keys_told.tell_keys.Goals as goal

pub returns-in-Ok-Some : goal.returns-in-Ok-Some
returns-in-Ok-Some g c =
    made-says c.keys_note.result (λ (n : Note). n.bytes.items) (IsNotedFrom kinds.Keys (key_form c.args.sets.schema.now) c.args.found c.args.name.now c.args.text.now) _ _ c.tell_note.ensures.says c.tell_note.ensures.nothing c.tell_note.ensures.says_no
    (if-ok-as c.keys_note.result (λ (n : Note). IsNoteFrom kinds.Keys (key_form c.args.sets.schema.now) c.args.name.now c.args.text.now c.in-Ok-Some.bad n.bytes.items) (λ (n : Note). IsNotedFrom kinds.Keys (key_form c.args.sets.schema.now) c.args.found c.args.name.now c.args.text.now n.bytes.items)
    (λ n says. record { bad = c.in-Ok-Some.bad; is_found = let found : c.in-Ok-Some.field-0 ≡ Some c.in-Ok-Some.bad = (rw c.in-Ok-Some.is at c.in-Ok-Some.field-0-is) in c.in-Ok-Some.is ∙ ap Ok found; says = says }) (search c.keys_note.ensures))

pub returns-in_default : goal.returns-in_default
returns-in_default g c = told_nothing refl

pub returns-in_default-2 : goal.returns-in_default-2
returns-in_default-2 g c = told_nothing refl
