use Rattle.std.proofs.Common.{sym, ◌∙◌}
use Rattle.addr_text.specs.TimesView.{part_view}
use Rattle.addr_text.proofs.TimeLaws.{parts_of-same, parts_of-other}
use Rattle.addr_text.proofs.time.take_part.Goals as goal

pub returns-then-eq-clause-step : goal.returns-then-eq-clause-step
returns-then-eq-clause-step c = λ units.
    rw (c.from.ensures, c.from-then-eq.ensures)
    (parts_of-same (c.args.unit.now.name.now, c.args.unit.now.ms) units c.args.reading.total c.args.reading.rest.now (part_view c.args.part) c.requires.next (sym c.eq.ensures ∙ c.if-eq.true))

pub returns-else-eq-clause-step : goal.returns-else-eq-clause-step
returns-else-eq-clause-step c = λ units.
    parts_of-other (c.args.unit.now.name.now, c.args.unit.now.ms) units c.args.reading.total c.args.reading.rest.now (part_view c.args.part) c.requires.next (sym c.eq.ensures ∙ c.if-eq.false)
