use Rattle.token_forms.specs.TextTokens.{text_tokens}
use Rattle.token_forms.proofs.FrontLaws.{refused_once, bad_token_once}
use Rattle.set_script.proofs.ScriptFronts.{script_closed}
use Rattle.set_script.proofs.script.one_script_fault_law.Goals as goal

pub returns-clause-refused : goal.returns-clause-refused
returns-clause-refused c = refused_once script_closed (text_tokens c.args._text.now)

pub returns-clause-token : goal.returns-clause-token
returns-clause-token c = bad_token_once script_closed c.args._text.now
