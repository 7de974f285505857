use Rattle.top_call.proofs.Deliveries.{front-behind}
use Rattle.top_call.proofs.delivery.write_both.Goals as goal

pub returns-in-Ok-clause-front : goal.returns-in-Ok-clause-front
returns-in-Ok-clause-front g c = front-behind c.write_whole-in-Ok.result _ _ _ c.args.first.now c.args.second.now c.in-Ok.ensures.bytes c.write_whole-in-Ok.ensures.front
