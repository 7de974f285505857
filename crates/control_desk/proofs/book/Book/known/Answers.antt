use Rattle.std.proofs.Common.{subst, take}
use Rattle.control_desk.specs.Books.{Booked}
use Rattle.control_desk.specs.Woven.{HasSeen, Replays}
use Rattle.control_desk.proofs.Booking.{last_then, replays_then}
use Rattle.control_desk.proofs.book.Book.known.Goals as goal

pub returns-clause-replays : goal.returns-clause-replays
returns-clause-replays c = subst (λ (b : Booked). Replays (take b.from b.control.committed) b.control.committed b.log) c.self.view_is (replays_then c.self.inside.control c.self.inside.log c.self.inside.from c.self.invariant)

pub returns-clause-last : goal.returns-clause-last
returns-clause-last c = subst (λ (b : Booked). HasSeen (take b.from b.control.committed) b.log b.control.work.base.number) c.self.view_is (last_then c.self.inside.control c.self.inside.log c.self.inside.from c.self.invariant)
