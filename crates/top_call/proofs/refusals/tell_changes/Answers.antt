use Rattle.std.proofs.Common.{subst, sym}
use Rattle.top_call.specs.Refused.{IsNoteOnChanges}
use Rattle.top_call.proofs.refusals.tell_changes.Goals as goal

pub returns : goal.returns
returns g c = (c.as_slice.result.now, c.as_slice.ensures.quiet, subst (IsNoteOnChanges c.args.name.now c.args.output.now.refusals.items c.args.output.now.failed) (sym c.as_slice.ensures.bytes) c.in_ok-note.ensures, c.tell.ensures)
