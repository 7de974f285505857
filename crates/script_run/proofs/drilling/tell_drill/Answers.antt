use Rattle.std.proofs.Common.{rules, ◌≡◌, ◌∙◌, ap, ◌++◌, Result, Ok, Err, OnOk}
use Rattle.set_model.specs.Control.{Generation}
use Rattle.set_report.specs.SummaryText.{summary_text}
use Rattle.script_run.proofs.drilling.tell_drill.Goals as goal

-- what holds after success holds of what that implies
on-ok : {T E P Q : Type 0} (r : Result T E) → (P → Q) → OnOk r P → OnOk r Q
on-ok (Ok x) implies h = implies h
on-ok (Err e) implies h = tt

pub returns-clause-told : goal.returns-clause-told
returns-clause-told g c =
    let told = c.in_ok-told.told in let old = c.args.telling.now.output.text.items in
    let same : c.generation.result.now ≡ c.answer_behind.new.control.work.base = search rules in
    on-ok c.write_summary.result (λ wrote. (told, c.in_ok-told.ensures, wrote ∙ ap (λ (z : Generation). old ++ summary_text told.events told.lines z) same)) c.write_summary.ensures.ok
