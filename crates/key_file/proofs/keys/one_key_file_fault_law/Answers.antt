use Rattle.token_forms.specs.TextTokens.{text_tokens}
use Rattle.token_forms.proofs.FrontLaws.{refused_once, bad_token_once}
use Rattle.key_file.proofs.KeyFronts.{key_file_closed}
use Rattle.key_file.proofs.keys.one_key_file_fault_law.Goals as goal

pub returns-clause-refused : goal.returns-clause-refused
returns-clause-refused c = refused_once (key_file_closed c.args._schema.now) (text_tokens c.args._text.now)

pub returns-clause-token : goal.returns-clause-token
returns-clause-token c = bad_token_once (key_file_closed c.args._schema.now) c.args._text.now
