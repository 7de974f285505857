use Rattle.std.proofs.Common.{◌≡◌, ◌∙◌, length, arith}
use Rattle.shared_pages.proofs.PageLaws.{copied-length, same-items, own-so-far, kept-own}
use Rattle.shared_pages.proofs.plain.own_plain_pages.Goals as goal

pub pages-preserved : goal.pages-preserved
pages-preserved g c =
    let n : length c.pages.pages.items ≡ length c.args.pages.now.items = copied-length c.pages.pages.items c.args.pages.now.items c.pages.invariant.items in
    record {
      items = same-items c.pages.pages.items c.pages.k c.index_mut-page.result.now c.own_plain.new.self c.index_mut-page.ensures.value c.own_plain.ensures.items ∙ c.pages.invariant.items;
      own = own-so-far c.pages.pages.items c.args.from c.pages.k c.own_plain.new.self (omega (arith, c.requires)) c.in_ok-own_plain.ensures.own c.pages.invariant.own;
      room = c.pages.invariant.room;
      kept = λ j h. kept-own c.pages.pages.items c.pages.k c.own_plain.new.self c.in_ok-own_plain.ensures.own j (c.pages.invariant.kept j h);
    }
