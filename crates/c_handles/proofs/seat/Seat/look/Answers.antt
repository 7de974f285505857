use Rattle.std.proofs.Common.{List, ap, subst}
use Rattle.history_laws.specs.Histories.{EndsWith}
use Rattle.set_model.specs.Control.{Generation}
use Rattle.gen_publish.specs.Publish.{ReaderView}
use Rattle.c_handles.proofs.seat.Seat.look.Goals as goal

pub returns-in-Out-clause-ok : goal.returns-in-Out-clause-ok
returns-in-Out-clause-ok c = λ g e.
    c.generation-number-in-Out.ensures.last g (subst (λ (seen : List Generation). EndsWith seen g) (ap (λ (r : ReaderView). r.seen) c.leave.ensures) e)
