use Rattle.std.proofs.Common.{◌∙◌, ap, min}
use Rattle.bit_rows.specs.Ranked.{rank}
use Rattle.set_space.proofs.GapLaws.{gaps_ranked}
use Rattle.set_space.proofs.kept_set.gaps_before.Goals as goal

pub returns : goal.returns
returns c = λ passed image e l. c.rank.ensures ∙ ap (rank c.args.gaps.now) (c.min.ensures ∙ ap (min c.args.place) c.len.ensures) ∙ gaps_ranked passed image c.args.gaps.now c.args.place e l
