use Rattle.std.proofs.Common.{◌≡◌, sym, subst}
use Rattle.std.specs.Prelude.{IfOk}
use Rattle.input_files.specs.declared.work.Work.{Work}
use Rattle.top_call.specs.Unmet.{unmet_of}
use Rattle.top_call.proofs.unmet.unmet_of.Goals as goal

pub returns-in-Judge : goal.returns-in-Judge
returns-in-Judge c = subst (λ (w : Work). IfOk c.unmet_by_keys.result (λ note. note.bytes.items ≡ unmet_of w)) (sym c.in-Judge.is) c.unmet_by_keys.ensures

pub returns-in-JudgeCapture : goal.returns-in-JudgeCapture
returns-in-JudgeCapture c = subst (λ (w : Work). IfOk c.unmet_by_plan.result (λ note. note.bytes.items ≡ unmet_of w)) (sym c.in-JudgeCapture.is) c.unmet_by_plan.ensures
