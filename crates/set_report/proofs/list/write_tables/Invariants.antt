use Rattle.std.proofs.Common.{take, codes}
use Rattle.std.specs.List.{zip}
use Rattle.set_report.specs.ListText.{listed_table, first_sets}
use Rattle.element_text.proofs.JoinLaws.{Joins}
use Rattle.set_report.proofs.list.write_tables.Given as goal

abbrev pub invariant-tables : goal.invariant-tables
invariant-tables l = Joins (listed_table (zip l.schema l.generation.sets) l.now) (codes "\n") (first_sets (take l.place l.schema)) l.initial.out.items l.out.items l.separator
