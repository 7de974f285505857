use Rattle.top_call.proofs.Deliveries.{ends-memory}
use Rattle.top_call.proofs.delivery.tell.Goals as goal

pub returns-in-Usage : goal.returns-in-Usage
returns-in-Usage g c = rw c.in-Usage.is (search c.deliver.ensures)

pub returns-in-TooManyClerks : goal.returns-in-TooManyClerks
returns-in-TooManyClerks g c = rw c.in-TooManyClerks.is (search c.deliver_named.ensures)

pub returns-in-Memory : goal.returns-in-Memory
returns-in-Memory g c = rw c.in-Memory.is (ends-memory (g.K.Sink.taken c.args.sink.now) (g.K.Sink.faults c.args.sink.now))

pub returns-in-BadKey : goal.returns-in-BadKey
returns-in-BadKey g c = rw c.in-BadKey.is (search c.deliver_placed.ensures)
