use Rattle.std.proofs.Common.{◌≡◌, sym, subst, ℕ, ◌*◌, ◌/◌, arith, ◌∙◌, ap, length}
use Rattle.field_groups.specs.Groups.{IsWidth}
use Rattle.lookup_table.specs.Table.{IsShaped}
use Rattle.lookup_table.specs.Lines.{OwnsPlaces}
use Rattle.lookup_table.specs.Rows.{IsWide}
use Rattle.lookup_table.proofs.WideLaws.{made-none, made-more, wide-same, wide-shape, wide-stands}
use Rattle.lookup_table.proofs.SummaryLaws.{summed-none, rules-within}
use Rattle.lookup_table.proofs.table.FieldTable.widened.Goals as goal

pub rows-init : goal.rows-init
rows-init c = record { made = made-none _ _ _ _ c.in_ok-buckets.ensures.long c.in_ok-buckets.ensures.zeros; own = c.in_ok-buckets.ensures.own }

pub rows-preserved : goal.rows-preserved
rows-preserved c = record {
  made = made-more (IsWide c.args.self.now.buckets.rows c.args.self.now.rules) _ _ _ _ _ c.in_ok-row.row (λ j a b e x. wide-same _ _ j a b e x) c.in_ok-row.ensures c.put.ensures.rows c.rows.invariant.made;
  own = subst (OwnsPlaces 0 c.args.self.now.rules) (sym c.put.ensures.own) c.rows.invariant.own;
}

pub invariant_of-table : goal.invariant_of-table
invariant_of-table c =
    let shape : IsShaped 4 c.args.self.now.bits c.args.self.now.rules c.args.self.now.buckets.rows =
    subst (λ (w : ℕ). IsShaped w c.args.self.now.bits c.args.self.now.rules c.args.self.now.buckets.rows) c.requires c.args.self.now.shaped in
    record { shaped = wide-shape _ _ _ _ _ shape c.rows.invariant.made; summed = summed-none _ _ _ _ _ _ c.new.ensures.items; topped = summed-none _ _ _ _ _ _ c.new-2.ensures.items; full = c.new.ensures.capacity ∙ sym (ap length c.new.ensures.items); full_tops = c.new-2.ensures.capacity ∙ sym (ap length c.new-2.ensures.items) }

pub returns-clause-stands : goal.returns-clause-stands
returns-clause-stands c = λ blocks stands.
    let all : c.rows.j ≡ c.args.self.now.bits / 8 * 256 = omega arith in
    let groups : IsWidth 4 c.args.self.now.bits = subst (λ (w : ℕ). IsWidth w c.args.self.now.bits) c.requires c.args.self.now.shaped.groups in
    let same = c.take_pages.ensures in
    rw (same.same.width, same.same.bits, same.rules, same.buckets) (wide-stands _ _ _ _ blocks groups (rw all at c.rows.invariant.made) (rw c.requires at stands))

pub zeros-requires-clause-most : goal.zeros-requires-clause-most
zeros-requires-clause-most c = let few = rules-within _ _ _ _ _ c.args.self.now.shaped c.room-room.ensures.rows in omega (arith, few, c.room-room.ensures.most)
