use Rattle.lookup_table.specs.Summary.{KeepsTops}
use Rattle.lookup_table.proofs.table.FieldTable.take_pages.Goals as goal

pub invariant_of-self-2 : goal.invariant_of-self-2
invariant_of-self-2 c =
    let kept : KeepsTops c.args.self.now.bits c.args.self.now.rules c.add_pages.new.pages.items c.args.self.now.tops.items c.add_tops.new.tops.items = rw c.as_slice.ensures.value at c.add_tops.ensures.kept in
    record { shaped = c.args.self.now.shaped; summed = c.add_pages.ensures.summed; topped = kept _ _ c.add_pages.ensures.summed c.args.self.now.topped; full = c.add_pages.ensures.full; full_tops = c.add_tops.ensures.full }
