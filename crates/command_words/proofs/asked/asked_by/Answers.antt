use Rattle.std.proofs.Common.{map}
use Rattle.std.specs.String.{string_bytes}
use Rattle.command_words.proofs.AskedLaws.{none-seen, some-seen, asked-none, asked-marked, asked-later}
use Rattle.command_words.proofs.asked.asked_by.Goals as goal

pub returns-in-None : goal.returns-in-None
returns-in-None c = asked-none (map string_bytes c.args.words.now) _ _ c.after_mark-first.ensures (none-seen _ c.after_at.result _ c.in-None.is c.after_at.ensures)

pub returns-then-first : goal.returns-then-first
returns-then-first c = asked-marked (map string_bytes c.args.words.now) _ _ c.after_mark-first.ensures _ _ _ (some-seen _ c.after_at.result c.in-Some.found _ c.in-Some.is c.after_at.ensures) c.if-first.true c.named.ensures

pub returns : goal.returns
returns c = asked-later (map string_bytes c.args.words.now) _ _ c.after_mark-first.ensures _ _ _ _ _ (some-seen _ c.after_at.result c.in-Some.found _ c.in-Some.is c.after_at.ensures) c.if-first.false c.after_mark-second.ensures c.named-2.ensures
