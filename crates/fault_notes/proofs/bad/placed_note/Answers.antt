use Rattle.std.proofs.Common.{rules}
use Rattle.token_notes.specs.Shown.{place_text}
use Rattle.fault_notes.proofs.SourceLaws.{said_at}
use Rattle.fault_notes.proofs.bad.placed_note.Goals as goal

pub returns-clause-said : goal.returns-clause-said
returns-clause-said c = λ lines is_other is. said_at (place_text c.args.name.now c.args.bad.line c.args.bad.column) lines c.args.behind.now.bytes.items is_other c.join.new.self.bytes.items (search rules) is
