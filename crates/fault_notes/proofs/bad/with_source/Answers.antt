use Rattle.std.specs.Prelude.{codes}
use Rattle.token_notes.specs.Shown.{shown}
use Rattle.token_notes.specs.Source.{both_lines}
use Rattle.fault_notes.proofs.SourceLaws.{said-token}
use Rattle.fault_notes.proofs.bad.with_source.Goals as goal

pub returns : goal.returns
returns c =
    said-token (both_lines c.args.cut.front.now c.args.cut.token.now c.args.cut.behind.now) c.join.new.self.bytes.items c.end_line.new.self.bytes.items c.source_line.new.self.bytes.items c.say.new.self.bytes.items c.join-2.new.self.bytes.items c.end_line-2.new.self.bytes.items
    (shown (codes "help: ")) c.args.said.now.help.bytes.items c.in_ok-end_line.ensures c.in_ok-source_line.ensures c.in_ok-say.ensures c.in_ok-join-2.ensures c.in_ok-end_line-2.ensures
