use Rattle.key_file.proofs.KeysLaws.{keys_single}
use Rattle.key_file.proofs.keys.one_key_file_law.Goals as goal

pub returns : goal.returns
returns c = λ keys other. keys_single c.args._schema.now c.args._text.now keys other
