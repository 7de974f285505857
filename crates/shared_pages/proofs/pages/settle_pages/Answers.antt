use Rattle.std.proofs.Common.{refl, ◌∙◌, ◌≡◌, length, arith}
use Rattle.shared_pages.proofs.PageLaws.{copied-length, same-items, common-none, common-so-far}
use Rattle.shared_pages.proofs.pages.settle_pages.Goals as goal

pub pages-init : goal.pages-init
pages-init g c = record { items = refl; room = refl; common = common-none _ }

pub returns-in_err-settle-clause-items : goal.returns-in_err-settle-clause-items
returns-in_err-settle-clause-items g c = same-items c.pages.pages.items c.pages.k c.index_mut-page.result.now c.settle.new.self c.index_mut-page.ensures.value c.settle.ensures.items ∙ c.pages.invariant.items

pub pages-preserved : goal.pages-preserved
pages-preserved g c =
    let n : length c.pages.pages.items ≡ length c.args.pages.now.items = copied-length c.pages.pages.items c.args.pages.now.items c.pages.invariant.items in
    record {
      items = same-items c.pages.pages.items c.pages.k c.index_mut-page.result.now c.settle.new.self c.index_mut-page.ensures.value c.settle.ensures.items ∙ c.pages.invariant.items;
      room = c.pages.invariant.room;
      common = common-so-far c.pages.pages.items c.pages.k c.settle.new.self (omega arith) c.in_ok-settle.ensures.common c.pages.invariant.common;
    }
