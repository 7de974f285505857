use Rattle.std.proofs.Common.{sym, ◌∙◌}
use Rattle.shared_pages.proofs.PageLaws.{copied-length}
use Rattle.lookup_table.proofs.SummaryLaws.{summed-same}
use Rattle.lookup_table.proofs.table.FieldTable.settle.Goals as goal

pub invariant_of-self-in-Break-branch-2 : goal.invariant_of-self-in-Break-branch-2
invariant_of-self-in-Break-branch-2 c = record {
  shaped = rw c.settle.ensures.rows c.args.self.now.shaped;
  summed = rw c.settle.ensures.rows (summed-same _ _ _ _ _ _ _ c.settle_pages.ensures.items c.args.self.now.summed);
  topped = rw c.settle.ensures.rows c.args.self.now.topped;
  full = c.settle_pages.ensures.room ∙ c.args.self.now.full ∙ sym (copied-length c.settle_pages.new.pages.items c.args.self.now.pages.items c.settle_pages.ensures.items);
  full_tops = c.args.self.now.full_tops;
}

pub invariant_of-self-2 : goal.invariant_of-self-2
invariant_of-self-2 c = record {
  shaped = rw c.settle.ensures.rows c.args.self.now.shaped;
  summed = rw c.settle.ensures.rows (summed-same _ _ _ _ _ _ _ c.settle_pages.ensures.items c.args.self.now.summed);
  topped = rw c.settle.ensures.rows (summed-same _ _ _ _ _ _ _ c.settle_pages-2.ensures.items c.args.self.now.topped);
  full = c.settle_pages.ensures.room ∙ c.args.self.now.full ∙ sym (copied-length c.settle_pages.new.pages.items c.args.self.now.pages.items c.settle_pages.ensures.items);
  full_tops = c.settle_pages-2.ensures.room ∙ c.args.self.now.full_tops ∙ sym (copied-length c.settle_pages-2.new.pages.items c.args.self.now.tops.items c.settle_pages-2.ensures.items);
}
