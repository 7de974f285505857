use Rattle.std.proofs.Common.{◌≡◌, ◌∙◌, ap, ◌/◌, get_or, true, arith}
use Rattle.lookup_table.proofs.summary.renew_pages.Goals as goal

pub renew_at-requires-clause-own : goal.renew_at-requires-clause-own
renew_at-requires-clause-own c = ap (λ os. get_or os (c.words.q / 8) true) c.words.invariant.own ∙ c.requires.own c.words.q (omega arith) c.words-test.true

pub returns-clause-summed : goal.returns-clause-summed
returns-clause-summed c =
    let e : c.words.q ≡ c.args.end = omega arith in
    rw e at c.words.invariant.summed
