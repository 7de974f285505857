use Rattle.pcap_keys.proofs.PlansLaws.{plan_single}
use Rattle.pcap_keys.proofs.plan.one_plan_law.Goals as goal

pub returns : goal.returns
returns c = λ lines other. plan_single c.args._schema.now c.args._text.now lines other
