use Rattle.std.proofs.Common.{sym, subst, arith, Option}
use Rattle.std.specs.Prelude.{IfSome}
use Rattle.std.proofs.lemmas.List.Elements.{All-from_get_or}
use Rattle.frame_facts.specs.declared.facts.Facts.{Facts}
use Rattle.frame_facts.specs.Values.{HaveFieldBits}
use Rattle.frame_facts.proofs.Bits.{IsByte, facts_fit}
use Rattle.frame_facts.proofs.frame.facts_of.Goals as goal

pub returns-clause-bits : goal.returns-clause-bits
returns-clause-bits c =
    subst (λ (z : Option Facts). IfSome z HaveFieldBits) (sym c.by_link.ensures)
    (facts_fit c.args.link c.args.frame.now (All-from_get_or IsByte c.args.frame.now 0 (λ i b. omega (arith, c.type_inv.frame i))))
