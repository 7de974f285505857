use Rattle.std.proofs.Common.{[], ◌∷◌}
use Rattle.std.specs.Prelude.{codes}
use Rattle.std.proofs.lemmas.Result.{on_ok_weaker}
use Rattle.token_notes.specs.Shown.{shown}
use Rattle.fault_notes.proofs.SourceLaws.{said-more}
use Rattle.fault_notes.proofs.bad.add_cause.Goals as goal

pub returns : goal.returns
returns c =
    λ lines is. on_ok_weaker c.end_line.result
    (λ ended. said-more lines c.say.new.self.bytes.items (10 ∷ []) c.end_line.new.self.bytes.items ended (said-more lines c.args.note.now.bytes.items (shown (codes "an earlier error may have caused this one")) c.say.new.self.bytes.items c.in_ok-say.ensures is))
    c.end_line.ensures
