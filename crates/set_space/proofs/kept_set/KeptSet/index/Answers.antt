use Rattle.set_space.proofs.TableLaws.{has-tables}
use Rattle.set_space.proofs.kept_set.KeptSet.index.Goals as goal

pub returns : goal.returns
returns c = has-tables c.self.inside.lazy.passed c.self.inside.lazy.image c.args.self.now c.index.result.now c.index.ensures.tables c.self.view_is
