use Rattle.std.proofs.Common.{length, true}
use Rattle.token_forms.proofs.LoopLaws.{Left}
use Rattle.set_script.specs.ScriptReading as reading
use Rattle.set_script.proofs.elements.list_items.Given as goal

abbrev pub invariant-items : goal.invariant-items
invariant-items l = Left reading.starts_element (reading.list_item l.target l.decl) (l.steps, l.next) l.reader (reading.list_items l.target l.decl (l.fn.steps, true) l.fn.reader)

abbrev pub decreases-items : goal.decreases-items
decreases-items l = length l.reader
