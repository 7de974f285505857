use Rattle.std.proofs.Common.{subst, sym}
use Rattle.token_notes.specs.Shown.{Begins, name_text}
use Rattle.top_call.proofs.refusals.tell_too_many.Goals as goal

pub returns-clause-told : goal.returns-clause-told
returns-clause-told g c = (c.as_slice.result.now, c.as_slice.ensures.quiet, subst (Begins (name_text c.args.name.now)) (sym c.as_slice.ensures.bytes) c.in_ok-note.ensures.name, c.tell.ensures)
