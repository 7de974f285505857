use Rattle.std.proofs.Common.{subst}
use Rattle.control_desk.specs.Books.{IsApplied, Booked}
use Rattle.control_desk.proofs.Booking.{kept_then, applied, replays_then}
use Rattle.control_desk.proofs.book.Book.apply_steps.Goals as goal

pub invariant_of-self : goal.invariant_of-self
invariant_of-self c = kept_then c.args.clerk c.args.steps.now c.args.keep_going c.self.inside.control c.transact.new.control c.self.inside.log c.transact.new.log c.in-Ok.end c.self.invariant.closed c.in-Ok.ensures.ok c.self.inside.from c.self.invariant

pub returns-in-Ok-clause-ok : goal.returns-in-Ok-clause-ok
returns-in-Ok-clause-ok c =
    subst (λ (b : Booked). IsApplied c.args.clerk c.args.steps.now c.args.keep_going b (record { control = c.transact.new.control; log = c.transact.new.log; from = c.self.inside.from }) c.in-Ok.end) c.self.view_is
    (applied c.args.clerk c.args.steps.now c.args.keep_going (record { control = c.self.inside.control; log = c.self.inside.log; from = c.self.inside.from }) c.transact.new.control c.transact.new.log c.in-Ok.end c.self.invariant.closed c.self.invariant.within c.in-Ok.ensures.ok)

pub returns-in-Ok-clause-replays : goal.returns-in-Ok-clause-replays
returns-in-Ok-clause-replays c = replays_then c.transact.new.control c.transact.new.log c.self.inside.from
    (kept_then c.args.clerk c.args.steps.now c.args.keep_going c.self.inside.control c.transact.new.control c.self.inside.log c.transact.new.log c.in-Ok.end c.self.invariant.closed c.in-Ok.ensures.ok c.self.inside.from c.self.invariant)
