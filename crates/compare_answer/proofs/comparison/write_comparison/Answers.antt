use Rattle.std.proofs.Common.{◌≡◌, ◌∙◌, ◌++◌, ◌||◌, not, ap, List}
use Rattle.std.specs.List.{list_any}
use Rattle.set_model.specs.Control.{is_refusal}
use Rattle.set_model.specs.declared.report.Event.{Event}
use Rattle.set_model.specs.declared.script.SetDecl.{SetDecl}
use Rattle.compare_answer.specs.Compared.{is_alone, alone_text}
use Rattle.compare_answer.specs.Told.{run_refusals}
use Rattle.compare_answer.proofs.Ends.{four-parts}
use Rattle.compare_answer.proofs.comparison.write_comparison.Goals as goal

pub returns-clause-text : goal.returns-clause-text
returns-clause-text c =
    let a = c.args.old.now in
    let b = c.args.new.now in
    let file = b.file.now in
    let same = c.in_ok-same.same in
    let any = c.in_ok-any.any in
    let mid = c.write_reports.new.out.items in
    let rest : c.write_rest.new.out.items ≡ mid ++ alone_text file a.trace.control.schema b.trace.control.schema =
    c.in_ok-any.ensures.text ∙ ap (λ (z : List SetDecl). mid ++ alone_text file z c.schema-2.result.now) c.schema.ensures ∙ ap (λ (z : List SetDecl). mid ++ alone_text file a.trace.control.schema z) c.schema-2.ensures in
    let is_any : any ≡ list_any (is_alone a.trace.control.schema) b.trace.control.schema =
    c.in_ok-any.ensures.any ∙ ap (λ (z : List SetDecl). list_any (is_alone z) c.schema-2.result.now) c.schema.ensures ∙ ap (λ (z : List SetDecl). list_any (is_alone a.trace.control.schema) z) c.schema-2.ensures in record {
      same = same;
      reported = c.in_ok-same.ensures.text;
      reports = c.in_ok-same.ensures.is_text;
      text_is = four-parts c.new-text.result.items c.write_refusals.new.out.items c.write_refusals-2.new.out.items mid c.write_rest.new.out.items (run_refusals a) (run_refusals b) c.in_ok-same.ensures.text (alone_text file a.trace.control.schema b.trace.control.schema)
          c.new-text.ensures.items c.in_ok-write_refusals.ensures c.in_ok-write_refusals-2.ensures c.in_ok-same.ensures.added rest;
      differs_is =
          c.differs-refused.ensures
          ∙ ap (λ (z : List Event). ((list_any is_refusal z || list_any is_refusal c.as_slice-2.result.now) || not same) || any) c.as_slice.ensures
          ∙ ap (λ (z : List Event). ((list_any is_refusal a.trace.events || list_any is_refusal z) || not same) || any) c.as_slice-2.ensures
          ∙ ap (λ t. ((list_any is_refusal a.trace.events || list_any is_refusal b.trace.events) || not same) || t) is_any;
    }
