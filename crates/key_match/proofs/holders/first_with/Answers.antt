use Rattle.std.proofs.Common.{◌∙◌, sym, arith}
use Rattle.set_model.specs.declared.element.Element.{Element}
use Rattle.key_match.specs.Holders.{holds_many}
use Rattle.key_match.proofs.ListLaws.{find-on, find-here, find-none}
use Rattle.key_match.proofs.holders.first_with.Goals as goal

pub elements-preserved : goal.elements-preserved
elements-preserved c = find-on c.args.elements.now c.elements.i c.at-element.result.now c.at-element.ensures (holds_many c.args.key.now c.args.now c.args.count) (sym c.holds_many.ensures ∙ c.if-holds_many.false) c.elements.invariant

pub returns-then-holds_many : goal.returns-then-holds_many
returns-then-holds_many c = find-here (holds_many c.args.key.now c.args.now c.args.count) c.args.elements.now c.elements.i c.at-element.result.now c.at-element.ensures (sym c.holds_many.ensures ∙ c.if-holds_many.true) c.elements.invariant

pub returns : goal.returns
returns c = find-none (holds_many c.args.key.now c.args.now c.args.count) c.args.elements.now c.elements.i (omega (arith, c.elements-test.false, c.len-i-end.ensures)) c.elements.invariant
