use Rattle.std.proofs.Common.{sym, ◌∙◌}
use Rattle.shared_pages.proofs.PageLaws.{copied-length}
use Rattle.lookup_table.proofs.SummaryLaws.{summed-same}
use Rattle.lookup_table.proofs.table.FieldTable.own_summary.Goals as goal

pub invariant_of-self : goal.invariant_of-self
invariant_of-self c = record { shaped = c.args.self.now.shaped; summed = summed-same _ _ _ _ _ _ _ c.own_plain_pages.ensures.items c.args.self.now.summed; topped = c.args.self.now.topped; full = c.own_plain_pages.ensures.room ∙ c.args.self.now.full ∙ sym (copied-length c.own_plain_pages.new.pages.items c.args.self.now.pages.items c.own_plain_pages.ensures.items); full_tops = c.args.self.now.full_tops }

pub invariant_of-self-2 : goal.invariant_of-self-2
invariant_of-self-2 c = record {
  shaped = c.args.self.now.shaped;
  summed = summed-same _ _ _ _ _ _ _ c.own_plain_pages.ensures.items c.args.self.now.summed;
  topped = summed-same _ _ _ _ _ _ _ c.own_plain_pages-2.ensures.items c.args.self.now.topped;
  full = c.own_plain_pages.ensures.room ∙ c.args.self.now.full ∙ sym (copied-length c.own_plain_pages.new.pages.items c.args.self.now.pages.items c.own_plain_pages.ensures.items);
  full_tops = c.own_plain_pages-2.ensures.room ∙ c.args.self.now.full_tops ∙ sym (copied-length c.own_plain_pages-2.new.pages.items c.args.self.now.tops.items c.own_plain_pages-2.ensures.items);
}
