use Rattle.key_file.specs.KeysText.{IsKeysText}
use Rattle.key_file.proofs.KeysLaws.{keys_gives}
use Rattle.key_file.proofs.FitLaws.{keys_fit}
use Rattle.key_file.proofs.keys.read_keys.Goals as goal

pub returns-clause-found : goal.returns-clause-found
unfolding IsKeysText
returns-clause-found c = (keys_gives c.args.schema.now _ c.args.text.now _ c.whole.result _ c.as_slice.ensures c.new-reader.ensures c.whole.ensures).found

pub returns-clause-only : goal.returns-clause-only
unfolding IsKeysText
returns-clause-only c = (keys_gives c.args.schema.now _ c.args.text.now _ c.whole.result _ c.as_slice.ensures c.new-reader.ensures c.whole.ensures).only

pub returns-clause-bad : goal.returns-clause-bad
returns-clause-bad c = λ line reason e. ((keys_gives c.args.schema.now _ c.args.text.now _ c.whole.result _ c.as_slice.ensures c.new-reader.ensures c.whole.ensures).bad line reason e).0

pub returns-clause-fits : goal.returns-clause-fits
unfolding IsKeysText
returns-clause-fits c = keys_fit c.args.schema.now c.args.text.now c.whole.result (keys_gives c.args.schema.now _ c.args.text.now _ c.whole.result _ c.as_slice.ensures c.new-reader.ensures c.whole.ensures).found
