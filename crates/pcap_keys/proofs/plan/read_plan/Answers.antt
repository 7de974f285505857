use Rattle.pcap_keys.specs.PlansText.{IsPlanText}
use Rattle.pcap_keys.proofs.PlansLaws.{plan_gives}
use Rattle.pcap_keys.proofs.PlanFits.{plan_fits}
use Rattle.pcap_keys.proofs.plan.read_plan.Goals as goal

pub returns-clause-found : goal.returns-clause-found
unfolding IsPlanText
returns-clause-found c = (plan_gives c.args.schema.now _ c.args.text.now _ c.whole.result _ c.as_slice.ensures c.plain-reader.ensures c.whole.ensures).found

pub returns-clause-only : goal.returns-clause-only
unfolding IsPlanText
returns-clause-only c = (plan_gives c.args.schema.now _ c.args.text.now _ c.whole.result _ c.as_slice.ensures c.plain-reader.ensures c.whole.ensures).only

pub returns-clause-bad : goal.returns-clause-bad
returns-clause-bad c = λ line reason e. ((plan_gives c.args.schema.now _ c.args.text.now _ c.whole.result _ c.as_slice.ensures c.plain-reader.ensures c.whole.ensures).bad line reason e).0

pub returns-clause-fits : goal.returns-clause-fits
unfolding IsPlanText
returns-clause-fits c = plan_fits c.args.schema.now c.args.text.now c.whole.result (plan_gives c.args.schema.now _ c.args.text.now _ c.whole.result _ c.as_slice.ensures c.plain-reader.ensures c.whole.ensures).found
