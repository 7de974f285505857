use Rattle.set_script.proofs.ScriptWhole.{script_single}
use Rattle.set_script.proofs.script.one_script_law.Goals as goal

pub returns : goal.returns
returns c = λ s other. script_single c.args._text.now s other
