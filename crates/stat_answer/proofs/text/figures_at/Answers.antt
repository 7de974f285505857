use Rattle.stat_answer.proofs.FieldLaws.{figures-are}
use Rattle.stat_answer.proofs.text.figures_at.Goals as goal

pub returns : goal.returns
returns c = figures-are c.args.image.now.kinds c.args.image.now.elements c.index.result.now c.args.f c.at.result.now c.figures_of.result c.index.ensures.tables c.requires (cc c.at.ensures) c.figures_of.ensures
