use Rattle.std.proofs.Common.{take, codes}
use Rattle.std.specs.List.{zip}
use Rattle.addr_text.specs.Written.{interval_text}
use Rattle.element_text.proofs.JoinLaws.{Joins}
use Rattle.element_text.proofs.elements.write_intervals.Given as goal

abbrev pub invariant-fields : goal.invariant-fields
invariant-fields l = Joins (λ p. interval_text p.0 p.1) (codes " . ") (take l.field (zip l.kinds l.intervals)) l.initial.out.items l.out.items l.separator
