use Rattle.set_script.specs.ScriptText.{IsScriptText}
use Rattle.script_start.proofs.starting.refusal_of.Goals as goal

pub unreachable-requires : goal.unreachable-requires
unfolding IsScriptText
unreachable-requires c = let script = rw c.in-Ok-None.field-0-is at c.in-Ok-None.ensures in absurd (c.requires script.0 script.1)
