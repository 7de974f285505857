use Rattle.std.proofs.Common.{◌≡◌, ◌∙◌, ◌&&◌, ap, sym}
use Rattle.compare_answer.specs.Plain.{plain_ending}
use Rattle.compare_answer.proofs.ReportLaws.{reports-none, reports-more}
use Rattle.compare_answer.proofs.report.write_reports.Goals.{then-same, else-same}
use Rattle.compare_answer.proofs.report.write_reports.Goals as goal

pub places-init : goal.places-init
places-init c = reports-none (plain_ending c.args.first.now) (plain_ending c.args.second.now) c.args.out.now.items

pub places-preserved : goal.places-preserved
places-preserved c =
    let one = c.in_ok-is_same.is_same in
    let both : c.if-same.same ≡ (c.places.same && one) =
    elim c.if-same.branch [ then-same w ↦ w.same-is ∙ sym (ap (λ t. t && one) w.if-same.true) | else-same w ↦ w.same-is ∙ w.if-same.false ∙ sym (ap (λ t. t && one) w.if-same.false) ] in
    reports-more (plain_ending c.args.first.now) (plain_ending c.args.second.now) c.places.place c.places.same one c.if-same.same c.args.out.now.items c.places.out.items c.write_report.new.out.items c.places.invariant c.in_ok-is_same.ensures both
