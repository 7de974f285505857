-- A control thread's seat may go to another thread. Each lemma is about one type, as what holds it has it, since a `search` that goes down through
-- all of them runs out of steps.
use denote.Param.Send.{IsSend, sendable}
use Rattle.std.proofs.Crossing.{crosses}
use Rattle.atomic_table.proofs.owned.Table.TheSendSync as table
use Rattle.atomic_table.proofs.shared.Seat.TheSendSync as seat
use Rattle.set_model.specs.contracts.listed.Listed as Listed
use Rattle.set_model.specs.contracts.report.Event as Event
use Rattle.gen_publish.specs.contracts.control.Control as Control
use Rattle.gen_publish.proofs.control.Control.TheSendSync as control
use Rattle.control_desk.specs.contracts.logged_steps.LoggedSteps as LoggedSteps
use Rattle.control_desk.specs.contracts.entry.Entry as Entry
use Rattle.control_desk.specs.contracts.entry.Log as Log
use Rattle.control_desk.specs.contracts.book.Book as Book
use Rattle.control_desk.specs.contracts.clerk.Clerk as Clerk

steps_send : IsSend LoggedSteps.the_field.row
steps_send = search (sendable, crosses) depth 20

event_send : IsSend Event.the_row
event_send = search sendable depth 20

events_send : IsSend (Listed.the_field Event.the_row).row
events_send = let a : IsSend Event.the_row = event_send in search (sendable, crosses) depth 20

end_send : IsSend Event.the_field.row
end_send = search sendable depth 20

entry_send : IsSend Entry.the_field.row
entry_send = let a : IsSend LoggedSteps.the_field.row = steps_send in let b : IsSend (Listed.the_field Event.the_row).row = events_send in let c : IsSend Event.the_field.row = end_send in search sendable depth 20

log_send : IsSend Log.the_field.row
log_send = let a : IsSend Entry.the_field.row = entry_send in search (sendable, crosses) depth 20

control_send : IsSend Control.the_field.row
control_send = let a : IsSend Control.the_row = control.the_send in search sendable depth 20

book_send : IsSend Book.the_field.row
book_send = let a : IsSend Log.the_field.row = log_send in let b : IsSend Control.the_field.row = control_send in search sendable depth 20

pub clerk_send : IsSend Clerk.the_field.row
clerk_send = let a : IsSend Book.the_field.row = book_send in search (sendable, crosses, seat.the_send, table.the_send, table.the_sync) depth 30
