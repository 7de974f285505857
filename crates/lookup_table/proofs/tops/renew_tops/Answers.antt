use Rattle.std.proofs.Common.{◌≡◌, ◌∙◌, arith}
use Rattle.lookup_table.proofs.TopLaws.{renewed-both}
use Rattle.lookup_table.proofs.tops.renew_tops.Goals as goal

pub pages-preserved : goal.pages-preserved
pages-preserved c = record {
  tops = c.renew_top.ensures.tops;
  renewed = renewed-both c.args.from c.pages.p _ _ _ _ (omega arith) c.pages.invariant.renewed c.renew_top.ensures.renewed;
  own = c.renew_top.ensures.own ∙ c.pages.invariant.own;
  room = c.renew_top.ensures.room ∙ c.pages.invariant.room;
}

pub returns-clause-renewed : goal.returns-clause-renewed
returns-clause-renewed c =
    let e : c.pages.p ≡ c.args.to = omega arith in
    rw e at c.pages.invariant.renewed
