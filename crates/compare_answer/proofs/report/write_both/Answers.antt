use Rattle.std.proofs.Common.{◌≡◌, ◌∙◌, ap, sym, List, Some, slice_get, arith}
use Rattle.std.proofs.lemmas.Result.{IfOk-weaker}
use Rattle.set_model.specs.declared.script.SetDecl.{SetDecl}
use Rattle.compare_answer.specs.Plain.{plain_ending}
use Rattle.compare_answer.proofs.ReportLaws.{last-set, pair-said}
use Rattle.compare_answer.proofs.report.write_both.Goals as goal

pub image-requires : goal.image-requires
image-requires c = let same = c.requires.firsts.one_each in let within = c.requires.place in omega (arith, same, within)

pub image-requires-2 : goal.image-requires-2
image-requires-2 c = let same = c.requires.seconds.one_each in let within = c.requires.other in omega (arith, same, within)

pub returns : goal.returns
returns c =
    let a = plain_ending c.args.first.now in
    let b = plain_ending c.args.second.now in
    let declared : slice_get a.schema c.args.place ≡ Some c.at-declared.result.now = ap (slice_get a.schema) (sym c.from.ensures) ∙ ap (λ (z : List SetDecl). slice_get z c.from.result) (sym c.schema.ensures) ∙ c.at-declared.ensures in
    let other_declared : slice_get b.schema c.args.other ≡ Some c.at-other_declared.result.now = ap (slice_get b.schema) (sym c.from-2.ensures) ∙ ap (λ (z : List SetDecl). slice_get z c.from-2.result) (sym c.schema-2.ensures) ∙ c.at-other_declared.ensures in
    IfOk-weaker c.write_verdict.result _ _
    (λ same said. pair-said a b c.args.place c.args.other _ _ same c.args.out.now.items c.write_verdict.new.out.items
    (last-set a c.args.place c.at-declared.result.now c.in_ok-image.image c.of-lines.result.now declared c.in_ok-image.ensures c.of-lines.ensures)
    (last-set b c.args.other c.at-other_declared.result.now c.in_ok-other_image.other_image c.of-other_lines.result.now other_declared c.in_ok-other_image.ensures c.of-other_lines.ensures) said)
    c.write_verdict.ensures
