use Rattle.std.proofs.Common.{◌∙◌, ap, ◌-◌, ◌<◌, length, length-set, arith}
use Rattle.shared_pages.proofs.PageLaws.{last-out, page-out, still-whole, own-read, own-stays}
use Rattle.shared_pages.proofs.pages.take_behind.Goals as goal

pub pages-init : goal.pages-init
pages-init g c = record {
  items = last-out c.args.whole.now.items c.args.last.now.items c.remove-next.new.self.items _ 0 c.remove-next.result c.requires.whole (omega arith) c.remove-next.ensures.item c.remove-next.ensures.others;
  whole = c.requires.whole;
  own = c.requires.own;
  count = omega arith;
}

pub pass-next-requires-clause-own : goal.pass-next-requires-clause-own
pass-next-requires-clause-own g c =
    ap (λ page. page.own) c.index_mut-items.ensures.value
    ∙ own-read c.pages.whole.items (c.len-count.result - c.pages.back) c.index_mut-items.result.now (omega (arith, c.pages.invariant.count)) (c.pages.invariant.own.own (c.len-count.result - c.pages.back) (omega arith))

pub pages-preserved : goal.pages-preserved
pages-preserved g c =
    let within : c.len-count.result - c.pages.back < length c.pages.whole.items = omega (arith, c.pages.invariant.count) in
    record {
      items = page-out c.pages.whole.items c.remove-next.new.self.items (c.len-count.result - c.pages.back) 0 _ _ c.index_mut-items.result.now c.pass-next.new.self c.pages.next c.pass-next.result c.pages.invariant.whole within (omega arith) (omega arith) (omega arith)
          c.index_mut-items.ensures.value c.pass-next.ensures.item c.pass-next.ensures.others ∙ c.pages.invariant.items;
      whole = still-whole c.pages.whole.items (c.len-count.result - c.pages.back) 0 c.index_mut-items.result.now c.pass-next.new.self c.pages.next c.pass-next.result c.pages.invariant.whole within c.index_mut-items.ensures.value c.pass-next.ensures.item c.pass-next.ensures.others;
      own = own-stays c.pages.whole.items c.args.page (c.len-count.result - c.pages.back) c.pass-next.new.self c.pass-next.ensures.own c.pages.invariant.own;
      count = length-set _ _ _ ∙ c.pages.invariant.count;
    }
