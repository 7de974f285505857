use Rattle.top_call.proofs.Deliveries.{ends-written, ends-cut}
use Rattle.top_call.proofs.delivery.deliver.Goals as goal

pub returns-in-Ok : goal.returns-in-Ok
returns-in-Ok g c = ends-written c.args.status c.args.text.now _ _ _ _ c.in-Ok.ensures.bytes c.in-Ok.ensures.cause.kept

pub returns-in-Err : goal.returns-in-Err
returns-in-Err g c = ends-cut c.args.status c.args.text.now _ _ _ _ c.in-Err.ensures.front c.in-Err.ensures.cause.failed
