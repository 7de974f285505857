use Rattle.std.proofs.Common.{◌≡◌, ◌∙◌, length, arith}
use Rattle.shared_pages.proofs.PageLaws.{copied-length, same-items, own-so-far}
use Rattle.shared_pages.proofs.pages.own_pages.Goals as goal

pub returns-in_err-own-clause-items : goal.returns-in_err-own-clause-items
returns-in_err-own-clause-items g c =
    same-items c.pages.pages.items c.pages.k c.index_mut-page.result.now c.own.new.self c.index_mut-page.ensures.value c.own.ensures.items ∙ c.pages.invariant.items

pub pages-preserved : goal.pages-preserved
pages-preserved g c =
    let n : length c.pages.pages.items ≡ length c.args.pages.now.items = copied-length c.pages.pages.items c.args.pages.now.items c.pages.invariant.items in
    record {
      items = same-items c.pages.pages.items c.pages.k c.index_mut-page.result.now c.own.new.self c.index_mut-page.ensures.value c.own.ensures.items ∙ c.pages.invariant.items;
      own = own-so-far c.pages.pages.items c.args.from c.pages.k c.own.new.self (omega arith) c.in_ok-own.ensures.own c.pages.invariant.own;
    }
