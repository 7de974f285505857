use Rattle.set_script.proofs.TableLaws.{expression_of_table}
use Rattle.set_script.proofs.kinds.expressions_law.Goals as goal

pub returns : goal.returns
returns c = expression_of_table _
