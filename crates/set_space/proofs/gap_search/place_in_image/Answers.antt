use Rattle.set_space.proofs.GapLaws.{between_two}
use Rattle.set_space.proofs.gap_search.place_in_image.Goals as goal

pub returns-clause-same : goal.returns-clause-same
returns-clause-same c = between_two c.args.lazy.now.passed c.args.lazy.now.image c.args.i c.narrowed.result c.narrowed.ensures
