use Rattle.std.proofs.Common.{◌≡◌, ◌∙◌, ap, sym, List, Some, None, slice_get}
use Rattle.std.proofs.lemmas.Result.{IfOk-weaker}
use Rattle.set_model.specs.declared.script.SetDecl.{SetDecl}
use Rattle.compare_answer.specs.Compared.{place_in}
use Rattle.compare_answer.specs.Plain.{plain_ending}
use Rattle.compare_answer.proofs.ReportLaws.{report-both, report-alone}
use Rattle.compare_answer.proofs.report.write_report.Goals as goal

pub returns-in-Some : goal.returns-in-Some
returns-in-Some c =
    let a = plain_ending c.args.first.now in
    let b = plain_ending c.args.second.now in
    let declared : slice_get a.schema c.args.place ≡ Some c.at-declared.result.now = ap (slice_get a.schema) (sym c.from.ensures) ∙ ap (λ (z : List SetDecl). slice_get z c.from.result) (sym c.schema.ensures) ∙ c.at-declared.ensures in
    let at : place_in b.schema c.at-declared.result.now ≡ Some c.in-Some.other = ap (λ (z : List SetDecl). place_in z c.at-declared.result.now) (sym (c.as_slice.ensures ∙ c.schema-2.ensures)) ∙ sym c.in-Some.ensures.place in
    IfOk-weaker c.write_both.result _ _ (λ same said. report-both a b c.args.place c.in-Some.other c.at-declared.result.now same c.args.out.now.items c.write_both.new.out.items declared at said) c.write_both.ensures

pub returns-in_ok-write_alone-in-None : goal.returns-in_ok-write_alone-in-None
returns-in_ok-write_alone-in-None c =
    let a = plain_ending c.args.first.now in
    let b = plain_ending c.args.second.now in
    let declared : slice_get a.schema c.args.place ≡ Some c.at-declared.result.now = ap (slice_get a.schema) (sym c.from.ensures) ∙ ap (λ (z : List SetDecl). slice_get z c.from.result) (sym c.schema.ensures) ∙ c.at-declared.ensures in
    let none : place_in b.schema c.at-declared.result.now ≡ None = ap (λ (z : List SetDecl). place_in z c.at-declared.result.now) (sym (c.as_slice.ensures ∙ c.schema-2.ensures)) ∙ sym c.in-None.ensures.place in
    report-alone a b c.args.place c.at-declared.result.now c.args.out.now.items c.write_alone.new.out.items declared none c.in_ok-write_alone-in-None.ensures
