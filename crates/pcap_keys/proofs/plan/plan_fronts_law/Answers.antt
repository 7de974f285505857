use Rattle.pcap_keys.proofs.PlanFronts.{plan_closed}
use Rattle.pcap_keys.proofs.plan.plan_fronts_law.Goals as goal

pub returns : goal.returns
returns c = (plan_closed c.args._schema.now).front
