use Rattle.mapping_table.proofs.WordLaws.{run-cut}
use Rattle.mapping_table.proofs.roomy.word_from.Goals as goal

pub returns : goal.returns
returns g c = run-cut c.args.items.now c.args.first c.min.result c.min-2.result c.min.ensures c.min-2.ensures
