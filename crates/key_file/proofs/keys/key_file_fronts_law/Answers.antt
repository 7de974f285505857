use Rattle.key_file.proofs.KeyFronts.{key_file_closed}
use Rattle.key_file.proofs.keys.key_file_fronts_law.Goals as goal

pub returns : goal.returns
returns c = (key_file_closed c.args._schema.now).front
