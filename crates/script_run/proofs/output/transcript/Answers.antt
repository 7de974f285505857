use Rattle.std.proofs.Common.{refl}
use Rattle.script_run.proofs.JudgeLaws.{legal-as, first-match}
use Rattle.script_run.proofs.output.transcript.Goals as goal

pub returns-clause-text : goal.returns-clause-text
returns-clause-text g c = let told = c.in_ok-output.ensures.text in (told.0, legal-as (first-match c.args.script.schema) told.1, told.2)

pub returns-clause-report : goal.returns-clause-report
returns-clause-report g c = record { refusals_are = c.in_ok-output.ensures.refusals; script_is = refl }
