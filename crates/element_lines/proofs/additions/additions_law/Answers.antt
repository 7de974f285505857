use Rattle.element_lines.proofs.MadeLaws.{additions-tell}
use Rattle.element_lines.proofs.additions.additions_law.Goals as goal

pub returns : goal.returns
returns c = additions-tell
