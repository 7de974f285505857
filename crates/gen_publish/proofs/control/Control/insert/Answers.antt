use Rattle.std.proofs.Common.{rules}
use Rattle.set_space.specs.Open.{FitsSet}
use Rattle.gen_publish.proofs.Accepting.{shows_element}
use Rattle.gen_publish.proofs.KindLaws.{insertion_on}
use Rattle.gen_publish.proofs.control.Control.insert.Goals as goal

pub invariant_of-self : goal.invariant_of-self
invariant_of-self c = (insertion_on _ _ _ _ _ c.self.invariant.0 _ _ _ c.insert.ensures.change, c.self.invariant.1, c.self.invariant.2)

pub returns-clause-shown : goal.returns-clause-shown
returns-clause-shown c =
    let fits : FitsSet c.self.inside.work c.args.set c.args.element.now.parts = search rules in
    shows_element _ _ _ _ _ c.insert.result fits c.insert.ensures.change
