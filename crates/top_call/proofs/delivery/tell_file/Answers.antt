use Rattle.top_call.proofs.Deliveries.{ends-memory}
use Rattle.top_call.proofs.delivery.tell_file.Goals as goal

pub returns-in-Memory : goal.returns-in-Memory
returns-in-Memory g c = rw c.in-Memory.is (ends-memory (g.K.Sink.taken c.args.sink.now) (g.K.Sink.faults c.args.sink.now))
