use Rattle.std.proofs.Common.{◌≡◌, ◌+◌, ◌*◌, ◌-◌, length, All}
use Rattle.std.specs.Prelude.{insert}
use Rattle.shared_pages.specs.Paged.{items_in, AreOwn, IsWhole}
use Rattle.shared_pages.proofs.pages.take_behind.Given as goal

abbrev pub invariant-pages : goal.invariant-pages
invariant-pages g l = record {
  items : insert (items_in l.whole.items l.last.items) (512 * (l.count + 1 - l.back)) l.next ≡ items_in l.fn.whole.items l.fn.last.items;
  whole : All IsWhole l.whole.items;
  own : AreOwn l.page l.whole.items;
  count : length l.whole.items ≡ l.count;
}
