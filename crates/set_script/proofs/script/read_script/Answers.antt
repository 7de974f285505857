use Rattle.set_script.specs.ScriptText.{IsScriptText}
use Rattle.set_script.proofs.ScriptWhole.{script_gives, script_runs}
use Rattle.set_script.proofs.script.read_script.Goals as goal

pub returns-clause-found : goal.returns-clause-found
unfolding IsScriptText
returns-clause-found c = (script_gives c.args.text.now _ c.whole.result _ c.new-reader.ensures c.whole.ensures).found

pub returns-clause-only : goal.returns-clause-only
unfolding IsScriptText
returns-clause-only c = (script_gives c.args.text.now _ c.whole.result _ c.new-reader.ensures c.whole.ensures).only

pub returns-clause-bad : goal.returns-clause-bad
returns-clause-bad c = λ line reason e. ((script_gives c.args.text.now _ c.whole.result _ c.new-reader.ensures c.whole.ensures).bad line reason e).0

pub returns-clause-runnable : goal.returns-clause-runnable
unfolding IsScriptText
returns-clause-runnable c = script_runs c.args.text.now c.whole.result (script_gives c.args.text.now _ c.whole.result _ c.new-reader.ensures c.whole.ensures).found
