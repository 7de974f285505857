use Rattle.std.proofs.Common.{◌∙◌, ap, refl, List, ℕ}
use Rattle.set_model.specs.declared.report.Line.{Line}
use Rattle.set_model.specs.Control.{mode_of}
use Rattle.set_model.specs.Text.{run_text}
use Rattle.element_lines.proofs.LineLaws.{noted-same}
use Rattle.script_run.proofs.JudgeLaws.{legal-as, first-match}
use Rattle.element_lines.proofs.transcript.transcript_with_elements.Goals as goal

pub returns-clause-text : goal.returns-clause-text
returns-clause-text g c =
    let told = c.in_ok-output.ensures.text in
    let mode = mode_of c.args.keep_going in
    let s = c.args.script in
    let keys = c.args.keys.now in
    (told.0, legal-as (first-match s.schema) told.1, told.2 ∙ ap (λ (f : List Line → List ℕ). run_text f mode s keys told.0) (noted-same mode s keys c.in_ok-additions.additions c.in_ok-additions.ensures c.requires.keys))

pub returns-clause-report : goal.returns-clause-report
returns-clause-report g c = record { refusals_are = c.in_ok-output.ensures.refusals; script_is = refl }
