use Rattle.std.proofs.Common.{sym, subst}
use Rattle.lookup_table.specs.Rules.{IsOwn}
use Rattle.pipapo_image.proofs.GrowLaws.{kept-by}
use Rattle.pipapo_image.proofs.index.pages.own_rules.Goals as goal

pub returns-in_err-own_from-clause-kept : goal.returns-in_err-own_from-clause-kept
returns-in_err-own_from-clause-kept c = kept-by c.args.field.now c.own_from.new.self c.own_from.ensures.same c.own_from.ensures.rules c.own_from.ensures.buckets

pub returns-clause-kept : goal.returns-clause-kept
returns-clause-kept c = kept-by c.args.field.now c.own_from.new.self c.own_from.ensures.same c.own_from.ensures.rules c.own_from.ensures.buckets

pub returns-clause-own : goal.returns-clause-own
returns-clause-own c = subst (λ r. IsOwn c.args.first r c.own_from.new.self) (sym c.own_from.ensures.rules) c.in_ok-own_from.ensures.own
