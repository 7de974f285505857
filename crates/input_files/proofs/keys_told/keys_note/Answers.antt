use Rattle.token_notes.specs.declared.help.TextKind.TheVariants as kinds
use Rattle.key_file.specs.Keys.{key_file as key_form}
use Rattle.input_files.proofs.Telling.{first_alone}
use Rattle.input_files.proofs.keys_told.keys_note.Goals as goal

pub returns-then-text-gt-MOST_READ_AGAIN : goal.returns-then-text-gt-MOST_READ_AGAIN
returns-then-text-gt-MOST_READ_AGAIN c = first_alone kinds.Keys (key_form c.args.sets.schema.now) c.args.name.now c.args.text.now c.in_ok-note.note.bytes.items c.args.bad c.in_ok-note.ensures.place c.in_ok-note.ensures.source

pub returns-then-is_other_kind : goal.returns-then-is_other_kind
returns-then-is_other_kind c = first_alone kinds.Keys (key_form c.args.sets.schema.now) c.args.name.now c.args.text.now c.in_ok-note.note.bytes.items c.args.bad c.in_ok-note.ensures.place c.in_ok-note.ensures.source
