use Rattle.std.proofs.Common.{rules, ◌≡◌, sym, true, None, Some, slice_get}
use Rattle.set_model.specs.declared.element.Element.{Element}
use Rattle.set_model.specs.Key.{parts_fit}
use Rattle.pipapo_image.specs.Image.Found.{found}
use Rattle.packet_pool.proofs.Lists.{all_at}
use Rattle.key_answer.proofs.AnswerLaws.{none-first, some-place, some-first, found-within}
use Rattle.key_answer.proofs.answer.element_for.Goals as goal

pub at-requires : goal.at-requires
at-requires c =
    let is : found c.args.image.now c.args.packet.now.key c.args.packet.now.now ≡ Some c.in-Some.found = search rules in
    let same : c.elements.result.now ≡ c.args.image.now.elements = search rules in
    rw same (found-within c.args.image.now c.args.packet.now.key c.args.packet.now.now c.in-Some.found is)

pub returns-in-None-clause-first : goal.returns-in-None-clause-first
returns-in-None-clause-first c =
    let is : found c.args.image.now c.args.packet.now.key c.args.packet.now.now ≡ None = search rules in
    sym (none-first c.args.image.now c.args.packet.now.key c.args.packet.now.now is)

pub returns-in-Some-clause-first : goal.returns-in-Some-clause-first
returns-in-Some-clause-first c =
    let is : found c.args.image.now c.args.packet.now.key c.args.packet.now.now ≡ Some c.in-Some.found = search rules in
    let at : slice_get c.args.image.now.elements c.in-Some.found.place ≡ Some c.at.result.now = search rules in
    sym (some-first c.args.image.now c.args.packet.now.key c.args.packet.now.now c.in-Some.found.place c.at.result.now (some-place c.args.image.now c.args.packet.now.key c.args.packet.now.now c.in-Some.found is) at)

pub returns-in-Some-clause-fits : goal.returns-in-Some-clause-fits
returns-in-Some-clause-fits c =
    let at : slice_get c.args.image.now.elements c.in-Some.found.place ≡ Some c.at.result.now = search rules in
    all_at (λ (e : Element). parts_fit c.args.image.now.kinds e.parts ≡ true) c.args.image.now.elements (search rules) c.in-Some.found.place c.at.result.now at
