use Rattle.std.proofs.Common.{option_map, sym, ap, ◌∙◌}
use Rattle.addr_text.specs.TimesView.{part_view}
use Rattle.addr_text.proofs.TimeLaws.{parts_of-none}
use Rattle.addr_text.proofs.time.read_unit.Goals as goal

pub returns-in-None-clause-step : goal.returns-in-None-clause-step
returns-in-None-clause-step c = λ units. parts_of-none _ units _ _ (sym c.requires.ahead ∙ ap (option_map part_view) c.in-None.is)
