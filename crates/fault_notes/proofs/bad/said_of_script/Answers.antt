use Rattle.std.specs.Prelude.{false}
use Rattle.token_notes.specs.declared.note.Note.{Note}
use Rattle.fault_notes.proofs.SourceLaws.{cut-made}
use Rattle.fault_notes.proofs.bad.said_of_script.Goals as goal

pub returns : goal.returns
returns c =
    let cut = c.cut_at.result in let e = c.cut_at.ensures in
    cut-made c.said_at.result (λ (n : Note). n.bytes.items) c.args.text.now c.args.bad cut.front.now cut.token.now cut.behind.now false e.front e.token e.behind c.said_at.ensures
