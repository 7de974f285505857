use Rattle.std.proofs.Common.{◌≡◌, ◌∙◌, ◌<◌, sym, subst, ap, length, List, Some, slice_get}
use Rattle.std.proofs.lemmas.Option.{slice_get_within}
use Rattle.std.proofs.lemmas.Result.{on_ok_weaker, IfOk-weaker}
use Rattle.set_model.specs.declared.script.SetDecl.{SetDecl}
use Rattle.key_answer.specs.Origin.{lines_of}
use Rattle.key_answer.proofs.AnswerLaws.{set-within, key-fits, parts-fit, answer-written, answer-found}
use Rattle.key_answer.proofs.answer.write_found.Goals as goal

pub image-requires : goal.image-requires
image-requires c =
    let control = c.args.trace.now.control in
    set-within control.schema control.work.base.sets c.args.packet.now c.requires.fits c.requires.sets

pub element_for-answer-requires : goal.element_for-answer-requires
element_for-answer-requires c =
    let control = c.args.trace.now.control in
    key-fits control.schema control.work.base.sets c.args.packet.now c.requires.fits c.requires.sets c.in_ok-image.image c.in_ok-image.ensures

pub at-requires : goal.at-requires
at-requires c =
    let within = slice_get_within c.args.trace.now.control.schema c.args.packet.now.set c.requires.fits.set c.requires.fits.declared in
    subst (λ (z : List SetDecl). c.from.result < length z) (sym c.schema.ensures) (subst (λ n. n < length c.args.trace.now.control.schema) (sym c.from.ensures) within)

pub write_answer-requires : goal.write_answer-requires
write_answer-requires c =
    let control = c.args.trace.now.control in
    let declared : slice_get control.schema c.args.packet.now.set ≡ Some c.at.result.now = ap (slice_get control.schema) (sym c.from.ensures) ∙ ap (λ z. slice_get z c.from.result) (sym c.schema.ensures) ∙ c.at.ensures in
    parts-fit control.schema control.work.base.sets c.args.packet.now c.requires.fits c.requires.sets c.in_ok-image.image c.at.result.now c.element_for-answer.result c.in_ok-image.ensures declared c.element_for-answer.ensures.fits

pub returns-clause-text : goal.returns-clause-text
returns-clause-text c =
    let control = c.args.trace.now.control in
    let declared : slice_get control.schema c.args.packet.now.set ≡ Some c.at.result.now = ap (slice_get control.schema) (sym c.from.ensures) ∙ ap (λ z. slice_get z c.from.result) (sym c.schema.ensures) ∙ c.at.ensures in
    let at = c.in_ok-image.ensures in
    on_ok_weaker c.write_answer.result
    (λ wrote. answer-written control.schema control.work.base c.args.packet.now c.at.result.now c.in_ok-image.image (lines_of c.args.trace.now.lines c.args.packet.now.set) _ c.args.out.now.items _ _ c.of.ensures declared at c.element_for-answer.ensures.first wrote)
    c.write_answer.ensures.text

pub returns-clause-found : goal.returns-clause-found
returns-clause-found c =
    let control = c.args.trace.now.control in
    let at = c.in_ok-image.ensures in
    IfOk-weaker c.write_answer.result _ _ (λ found is. is ∙ answer-found control.work.base c.args.packet.now c.in_ok-image.image _ at c.element_for-answer.ensures.first) c.write_answer.ensures.found
