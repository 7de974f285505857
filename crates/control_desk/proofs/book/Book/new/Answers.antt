use Rattle.std.proofs.Common.{◌≡◌, ◌+◌, length, ap, ◌∙◌}
use Rattle.control_desk.proofs.Booking.{kept_first, as_many_generations}
use Rattle.control_desk.proofs.book.Book.new.Goals as goal

pub invariant_of-result : goal.invariant_of-result
invariant_of-result c =
    let many : c.number-from.result + 1 ≡ length c.args.control.committed = ap (λ n. n + 1) c.number-from.ensures ∙ as_many_generations c.args.control c.known.ensures.last c.known.ensures.grown in
    rw c.new.ensures (kept_first c.args.control (c.number-from.result + 1) c.known.ensures.last many c.requires.closed)

pub returns-clause-log : goal.returns-clause-log
returns-clause-log c = (c.new.ensures, ap (λ n. n + 1) c.number-from.ensures ∙ as_many_generations c.args.control c.known.ensures.last c.known.ensures.grown)
