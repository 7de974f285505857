use Rattle.std.proofs.Common.{refl, sym, ◌∙◌, ap}
use Rattle.script_laws.specs.Reports.{has_failed, refusals_in}
use Rattle.list_json.proofs.report.listing_json.Goals as goal

pub returns-clause-report : goal.returns-clause-report
returns-clause-report g c = record { refusals_are = c.in_ok-output.ensures.refusals ∙ ap (refusals_in 0) (sym c.in_ok-whole.ensures.ends.told); script_is = refl }

pub returns-clause-failed : goal.returns-clause-failed
returns-clause-failed g c = c.in_ok-output.ensures.failed ∙ ap has_failed (sym c.in_ok-whole.ensures.ends.told)
