use Rattle.set_compare.proofs.SearchLaws.{alike-law}
use Rattle.set_compare.proofs.difference.compare.Goals as goal

pub returns-clause-alike : goal.returns-clause-alike
returns-clause-alike c =
    alike-law c.args.first.now c.args.second.now c.args.first_at c.args.second_at c.in_ok-in_first.in_first c.in_ok-in_second.in_second c.requires c.in_ok-in_first.ensures c.in_ok-in_second.ensures
