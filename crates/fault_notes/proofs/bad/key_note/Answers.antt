use Rattle.std.proofs.lemmas.Result.{IfOk-weaker}
use Rattle.fault_notes.proofs.bad.key_note.Goals as goal

pub returns : goal.returns
returns c = IfOk-weaker c.placed_note.result _ _ (λ note begins. record { line = c.args.bad.line; column = c.args.bad.column; begins = begins }) c.placed_note.ensures.place
