use Rattle.command_words.proofs.FrontLaws.{front-stripped}
use Rattle.command_words.proofs.shape.behind.Goals as goal

pub returns : goal.returns
returns c = front-stripped c.args.front.now c.args.word.now c.strip_prefix.result c.strip_prefix.ensures.cases
