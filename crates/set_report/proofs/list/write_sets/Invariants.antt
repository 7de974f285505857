use Rattle.std.proofs.Common.{take, codes}
use Rattle.std.specs.List.{zip}
use Rattle.set_report.specs.ListText.{listed_set, sets_beside}
use Rattle.element_text.proofs.JoinLaws.{Joins}
use Rattle.set_report.proofs.list.write_sets.Given as goal

abbrev pub invariant-sets : goal.invariant-sets
invariant-sets l = Joins (listed_set l.now) (codes "\n") (sets_beside l.first (take l.place (zip l.schema l.generation.sets))) l.initial.out.items l.out.items l.separator
