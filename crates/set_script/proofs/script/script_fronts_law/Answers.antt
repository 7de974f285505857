use Rattle.set_script.proofs.ScriptFronts.{script_closed}
use Rattle.set_script.proofs.script.script_fronts_law.Goals as goal

pub returns : goal.returns
returns c = script_closed.front
