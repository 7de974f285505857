use Rattle.std.proofs.Common.{rules}
use Rattle.set_model.specs.Control.{mode_of}
use Rattle.rule_chain.specs.Judged.{judged}
use Rattle.script_run.proofs.JudgeLaws.{judged-legal}
use Rattle.script_run.proofs.output.judged.Goals as goal

pub returns-clause-text : goal.returns-clause-text
returns-clause-text g c =
    let told = c.in_ok-output.ensures.text in
    (told.0, judged-legal (mode_of c.args.keep_going) (judged c.args.chains) told.1 (search rules) (λ generation packet. search rules), search (rules, told.2))

pub returns-clause-report : goal.returns-clause-report
returns-clause-report g c = record { refusals_are = search (rules, c.in_ok-output.ensures.refusals); script_is = search rules }
