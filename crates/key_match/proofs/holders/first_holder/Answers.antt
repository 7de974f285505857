use Rattle.std.proofs.Common.{◌∙◌, sym, arith}
use Rattle.set_model.specs.declared.element.Element.{Element}
use Rattle.set_model.specs.SetState.{holds}
use Rattle.key_match.proofs.ListLaws.{find-on, find-here, find-none}
use Rattle.key_match.proofs.holders.first_holder.Goals as goal

pub elements-preserved : goal.elements-preserved
elements-preserved c = find-on c.args.elements.now c.elements.i c.at-element.result.now c.at-element.ensures (λ (e : Element). holds e c.args.key.now) (sym c.holds.ensures ∙ c.if-holds.false) c.elements.invariant

pub returns-then-holds : goal.returns-then-holds
returns-then-holds c = find-here (λ (e : Element). holds e c.args.key.now) c.args.elements.now c.elements.i c.at-element.result.now c.at-element.ensures (sym c.holds.ensures ∙ c.if-holds.true) c.elements.invariant

pub returns : goal.returns
returns c = find-none (λ (e : Element). holds e c.args.key.now) c.args.elements.now c.elements.i (omega (arith, c.elements-test.false, c.len-i-end.ensures)) c.elements.invariant
