use Rattle.set_script.proofs.ScriptLaws.{list_item_shorter}
use Rattle.set_script.proofs.elements.next_list_item.Goals as goal

pub returns-clause-shorter : goal.returns-clause-shorter
returns-clause-shorter c = list_item_shorter _ _ _ _ _ _ _ c.list_item.ensures
