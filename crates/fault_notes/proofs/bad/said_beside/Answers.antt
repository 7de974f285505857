use Rattle.std.specs.Prelude.{false}
use Rattle.token_notes.specs.declared.note.Note.{Note}
use Rattle.fault_notes.proofs.SourceLaws.{cut-made}
use Rattle.fault_notes.proofs.bad.said_beside.Goals as goal

pub returns : goal.returns
returns c =
    let cut = c.cut_at-cut.result in let e = c.cut_at-cut.ensures in
    cut-made c.with_source.result (λ (n : Note). n.bytes.items) c.args.text.now c.args.bad cut.front.now cut.token.now cut.behind.now false e.front e.token e.behind c.with_source.ensures
