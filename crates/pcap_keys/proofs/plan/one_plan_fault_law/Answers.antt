use Rattle.token_forms.specs.TextTokens.{plain_tokens}
use Rattle.token_forms.proofs.FrontLaws.{refused_once, bad_token_one}
use Rattle.pcap_keys.proofs.PlanFronts.{plan_closed}
use Rattle.pcap_keys.proofs.plan.one_plan_fault_law.Goals as goal

pub returns-clause-refused : goal.returns-clause-refused
returns-clause-refused c = refused_once (plan_closed c.args._schema.now) (plain_tokens c.args._text.now)

pub returns-clause-token : goal.returns-clause-token
returns-clause-token c = bad_token_one (plan_closed c.args._schema.now) (plain_tokens c.args._text.now) c.args._text.now
