use Rattle.std.specs.Prelude.{false}
use Rattle.token_notes.specs.Source.{IsSaid, source_text}
use Rattle.fault_notes.proofs.SourceLaws.{cut-said}
use Rattle.fault_notes.proofs.bad.further_note.Goals as goal

pub returns-clause-source : goal.returns-clause-source
returns-clause-source c =
    let text = c.args.text.now in let bad = c.args.bad in let cut = c.cut_at-cut.result in let e = c.cut_at-cut.ensures in
    let said : IsSaid (source_text text bad) c.in_ok-behind.behind.bytes.items false = cut-said text bad cut.front.now cut.token.now cut.behind.now c.in_ok-behind.behind.bytes.items false e.front e.token e.behind c.in_ok-behind.ensures in
    c.placed_note.ensures.said (source_text text bad) false (c.in_ok-add_cause.ensures (source_text text bad) said)
