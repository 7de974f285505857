use Rattle.std.proofs.Common.{sym, ◌∙◌, ap, arith}
use Rattle.std.proofs.lemmas.List.Sums.{count_by_more_yes, count_by_more_no}
use Rattle.std.proofs.lemmas.Option.{get_or_from_slice_get, slice_get_within}
use Rattle.expiry_scan.specs.Expired.{is_leaving}
use Rattle.expiry_scan.proofs.page_ends.count_in.Goals.{then-is_leaving, else-is_leaving}
use Rattle.expiry_scan.proofs.page_ends.count_in.Goals as goal

pub elements-preserved : goal.elements-preserved
elements-preserved c =
    let es = c.args.elements.now in
    let i = c.elements.i in
    let e = c.at.result.now in
    let within = slice_get_within es i e c.at.ensures in
    let is = ap (is_leaving c.args.passed c.args.now) (get_or_from_slice_get es i e e c.at.ensures) ∙ sym c.is_leaving.ensures in
    elim c.if-is_leaving.branch [
      | then-is_leaving w ↦ (let more = count_by_more_yes (is_leaving c.args.passed c.args.now) es i e within (is ∙ w.if-is_leaving.true) in
          omega (arith, more, w.count-is, c.elements.invariant))
      | else-is_leaving w ↦ (let more = count_by_more_no (is_leaving c.args.passed c.args.now) es i e within (is ∙ w.if-is_leaving.false) in
          omega (arith, more, w.count-is, c.elements.invariant))
    ]
