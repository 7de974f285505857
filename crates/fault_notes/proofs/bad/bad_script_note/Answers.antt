use Rattle.token_notes.specs.declared.help.TextKind.TheVariants as kinds
use Rattle.token_notes.specs.OtherKind.{is_other_kind}
use Rattle.token_notes.specs.Source.{source_text}
use Rattle.fault_notes.proofs.bad.bad_script_note.Goals as goal

pub returns-clause-source : goal.returns-clause-source
returns-clause-source c = c.placed_note.ensures.said (source_text c.args.text.now c.args.bad) (is_other_kind kinds.Script c.args.text.now c.args.bad) c.in_ok-behind.ensures
