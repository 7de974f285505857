use Rattle.std.proofs.Common.{sym, subst, Vec, Global}
use Rattle.expiry_scan.specs.declared.page_ends.PageEnds.{PageEnds}
use Rattle.expiry_scan.specs.Soonest.{AreEnds}
use Rattle.expiry_scan.proofs.EndLaws.{ends_set}
use Rattle.expiry_scan.proofs.page_ends.find_again.Goals.{then-index-unwrap_or, else-index-unwrap_or}
use Rattle.expiry_scan.proofs.page_ends.find_again.Goals as goal

pub pages-preserved : goal.pages-preserved
pages-preserved c =
    let es = c.args.elements.now in
    elim c.if-index-unwrap_or.branch [
      | then-index-unwrap_or w ↦ subst (λ (v : Vec PageEnds Global). AreEnds c.args.passed es v.items) (sym w.ends-is) (ends_set c.args.passed es c.pages.ends.items c.pages.page w.page_ends.result c.pages.invariant w.page_ends.ensures)
      | else-index-unwrap_or w ↦ subst (λ (v : Vec PageEnds Global). AreEnds c.args.passed es v.items) (sym w.ends-is) c.pages.invariant
    ]
