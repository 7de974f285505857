use Rattle.compare_answer.specs.Compared.{AreReports}
use Rattle.compare_answer.specs.Plain.{plain_ending, Adds}
use Rattle.compare_answer.proofs.report.write_reports.Given as goal

-- the reports on the first sets are written
abbrev pub invariant-places : goal.invariant-places
invariant-places l = Adds (AreReports (plain_ending l.first) (plain_ending l.second) l.place l.same) l.initial.out.items l.out.items
