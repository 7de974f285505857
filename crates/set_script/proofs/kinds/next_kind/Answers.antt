use Rattle.set_script.proofs.ScriptLaws.{more_kinds_shorter}
use Rattle.set_script.proofs.kinds.next_kind.Goals as goal

pub returns-clause-shorter : goal.returns-clause-shorter
returns-clause-shorter c = more_kinds_shorter _ _ _ _ _ _ c.more_kinds.ensures
