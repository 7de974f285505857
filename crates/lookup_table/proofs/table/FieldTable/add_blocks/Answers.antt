use Rattle.std.proofs.Common.{◌≡◌, ◌/◌, length, get_or, true, ap, ◌∙◌, length-append, arith}
use Rattle.shared_pages.specs.Paged.{owns_of}
use Rattle.lookup_table.proofs.RowsLaws.{raised-rooms, size-rooms}
use Rattle.lookup_table.proofs.RuleLaws.{raised-shape, raised-rules, sized-shape, rules-stand}
use Rattle.lookup_table.proofs.MarkLaws.{cells-both}
use Rattle.lookup_table.proofs.SummaryLaws.{few-rules, cells-raised, fresh-raised, summed-pages, summed-added, eight-groups}
use Rattle.lookup_table.proofs.table.FieldTable.add_blocks.Goals as goal

pub overflow_cast-count : goal.overflow_cast-count
overflow_cast-count c = let few = few-rules _ _ _ (length c.args.added.now) _ _ c.args.self.now.shaped c.requires.spare c.room-room.ensures.rows c.room-room.type_inv in omega arith

pub mark_blocks-requires-clause-count : goal.mark_blocks-requires-clause-count
mark_blocks-requires-clause-count c = few-rules _ _ _ (length c.args.added.now) _ _ c.args.self.now.shaped c.requires.spare c.room-room.ensures.rows c.room-room.type_inv

pub mark_blocks-requires-clause-shape : goal.mark_blocks-requires-clause-shape
mark_blocks-requires-clause-shape c = raised-shape _ _ _ _ _ _ c.args.self.now.shaped c.raise.ensures.rows

pub overflow_add-self : goal.overflow_add-self
overflow_add-self c = let few = few-rules _ _ _ (length c.args.added.now) _ _ c.args.self.now.shaped c.requires.spare c.room-room.ensures.rows c.room-room.type_inv in omega arith

pub mark_added-requires-clause-few : goal.mark_added-requires-clause-few
mark_added-requires-clause-few c = few-rules _ _ _ (length c.args.added.now) _ _ c.args.self.now.shaped c.requires.spare c.room-room.ensures.rows c.room-room.type_inv

pub mark_added-requires-2-clause-few : goal.mark_added-requires-2-clause-few
mark_added-requires-2-clause-few c = few-rules _ _ _ (length c.args.added.now) _ _ c.args.self.now.shaped c.requires.spare c.room-room.ensures.rows c.room-room.type_inv

pub mark_added-requires-clause-own : goal.mark_added-requires-clause-own
mark_added-requires-clause-own c = λ r low high.
    let page : r / 64 / 64 ≡ r / 4096 = omega arith in
    ap (λ p. get_or (owns_of c.args.self.now.pages.items) p true) page ∙ c.requires.own.marks r low high

pub mark_added-requires-2-clause-own : goal.mark_added-requires-2-clause-own
mark_added-requires-2-clause-own c = λ r low high.
    let top : r / 4096 / 64 ≡ r / 262144 = omega arith in
    ap (λ q. get_or (owns_of c.args.self.now.tops.items) q true) top ∙ c.requires.own.tops r low high

pub mark_blocks-requires-clause-fresh : goal.mark_blocks-requires-clause-fresh
mark_blocks-requires-clause-fresh c = fresh-raised _ _ _ _ _ _ c.args.self.now.shaped c.raise.ensures.rows

pub mark_added-requires-clause-groups : goal.mark_added-requires-clause-groups
mark_added-requires-clause-groups c = eight-groups _ _ c.args.self.now.shaped.groups

pub mark_added-requires-clause-pages : goal.mark_added-requires-clause-pages
mark_added-requires-clause-pages c = summed-pages _ _ _ _ _ _ c.args.self.now.summed

pub invariant_of-self : goal.invariant_of-self
invariant_of-self c = record {
  shaped = sized-shape _ _ _ _ _ (raised-shape _ _ _ _ _ _ c.args.self.now.shaped c.raise.ensures.rows) c.mark_blocks.ensures.size;
  summed = summed-added _ _ _ _ _ _ _ _ _ _ c.args.self.now.shaped.groups c.args.self.now.summed (cells-both _ _ _ _ (cells-raised _ _ _ _ _ _ c.args.self.now.shaped c.raise.ensures.rows) c.mark_blocks.ensures.kept)
      c.mark_blocks.ensures.only c.mark_added.ensures.kept c.mark_added.ensures.marked;
  topped = summed-added _ _ _ _ _ _ _ _ _ _ c.args.self.now.shaped.groups c.args.self.now.topped (cells-both _ _ _ _ (cells-raised _ _ _ _ _ _ c.args.self.now.shaped c.raise.ensures.rows) c.mark_blocks.ensures.kept)
      c.mark_blocks.ensures.only c.mark_added-2.ensures.kept c.mark_added-2.ensures.marked;
  full = omega (arith, c.mark_added.ensures.room, c.args.self.now.full, c.mark_added.ensures.kept.long);
  full_tops = omega (arith, c.mark_added-2.ensures.room, c.args.self.now.full_tops, c.mark_added-2.ensures.kept.long);
}

pub returns-clause-room : goal.returns-clause-room
returns-clause-room c = size-rooms _ _ c.mark_blocks.ensures.size ∙ raised-rooms _ _ _ c.raise.ensures.rows

pub returns-clause-stands : goal.returns-clause-stands
returns-clause-stands c = λ blocks stands.
    rules-stand _ _ _ _ _ (omega (arith, length-append blocks c.args.added.now, stands.one_each))
    (c.mark_blocks.ensures.rules blocks stands.one_each (raised-rules _ _ _ _ _ _ blocks c.args.self.now.shaped c.raise.ensures.rows stands))
