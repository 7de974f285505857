use Rattle.std.proofs.Common.{refl}
use Rattle.set_model.specs.declared.element.Element.{Element}
use Rattle.set_model.specs.Key.{parts_fit}
use Rattle.std.proofs.Common.{◌≡◌, true}
use Rattle.set_model.specs.SetState.{answers}
use Rattle.key_match.specs.Matched.{plain, also_line}
use Rattle.key_match.proofs.ListLaws.{counted-next, counted-few, named-next, of-item}
use Rattle.key_match.proofs.hit.write_others.Goals as goal

pub write_next-requires-clause-fits : goal.write_next-requires-clause-fits
write_next-requires-clause-fits c = of-item (λ (e : Element). parts_fit c.args.asked.now.declared.now.kinds e.parts ≡ true) c.args.asked.now.elements.now c.elements.i c.at.result.now c.requires.parts c.at.ensures

pub elements-preserved : goal.elements-preserved
elements-preserved c =
    let a = c.args.asked.now in
    let es = a.elements.now in
    let test = answers a.key.now a.at in
    let e = c.at.result.now in record {
      text = named-next (also_line (plain a)) 8 test es c.elements.i e c.elements.count c.args.out.now.items c.elements.out.items c.write_next.new.out.items c.at.ensures c.elements.invariant.count c.elements.invariant.text c.in_ok-count.ensures.text;
      count = counted-next es c.elements.i e c.at.ensures test c.elements.count c.in_ok-count.count (test e) refl c.in_ok-count.ensures.count c.elements.invariant.count;
      few = counted-few c.elements.i c.elements.count c.in_ok-count.count (test e) c.in_ok-count.ensures.count c.elements.invariant.few;
    }
