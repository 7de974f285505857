use Rattle.std.proofs.Common.{◌≡◌, ◌+◌, ◌∙◌, ap, sym, length, suc, rules}
use Rattle.set_model.specs.Blocks.{blocks}
use Rattle.range_expand.proofs.SplitLaws.{step-more, step-last}
use Rattle.range_expand.proofs.BlocksIterator.next.Goals as goal

pub returns-then-last-self-clause-steps : goal.returns-then-last-self-clause-steps
returns-then-last-self-clause-steps c =
    sym c.self.view_is ∙ step-more c.self.inside.low c.self.inside.high c.self.inside.bits c.first_free_bits.result c.last_value-last.result c.if-self.false c.first_free_bits.ensures.greatest (let last = c.last_value-last.ensures in search rules)

pub returns-then-last-self-clause-goes : goal.returns-then-last-self-clause-goes
returns-then-last-self-clause-goes c =
    let e = sym c.self.view_is ∙ step-more c.self.inside.low c.self.inside.high c.self.inside.bits c.first_free_bits.result c.last_value-last.result c.if-self.false c.first_free_bits.ensures.greatest (let last = c.last_value-last.ensures in search rules) in
    let f : length c.args.self.now ≡ suc (length (blocks (c.last_value-last.result + 1) c.self.inside.high c.self.inside.bits)) = ap length e in
    rw e (search rules)

pub returns-else-last-self-clause-steps : goal.returns-else-last-self-clause-steps
returns-else-last-self-clause-steps c =
    sym c.self.view_is
    ∙ step-last c.self.inside.low c.self.inside.high c.self.inside.bits c.first_free_bits.result c.last_value-last.result c.if-self.false c.first_free_bits.ensures.greatest (let last = c.last_value-last.ensures in search rules) c.if-last-self.false
