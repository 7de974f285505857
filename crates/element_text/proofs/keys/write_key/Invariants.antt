use Rattle.std.proofs.Common.{take, codes}
use Rattle.std.specs.List.{zip}
use Rattle.addr_text.specs.Written.{value_text}
use Rattle.element_text.proofs.JoinLaws.{Joins}
use Rattle.element_text.proofs.keys.write_key.Given as goal

abbrev pub invariant-fields : goal.invariant-fields
invariant-fields l = Joins (λ p. value_text p.0 p.1) (codes " . ") (take l.field (zip l.kinds l.key)) l.initial.out.items l.out.items l.separator
