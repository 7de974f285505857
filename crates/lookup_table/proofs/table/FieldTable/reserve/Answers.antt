use Rattle.std.proofs.Common.{ap, ◌∙◌, arith}
use Rattle.lookup_table.specs.Table.{bucket_bits}
use Rattle.lookup_table.specs.Lines.{Lined}
use Rattle.lookup_table.proofs.RowsLaws.{grown-bits}
use Rattle.lookup_table.proofs.RuleLaws.{grown-shape, grown-stands}
use Rattle.lookup_table.proofs.SummaryLaws.{summed-kept, cells-grown, first-long}
use Rattle.lookup_table.proofs.table.FieldTable.reserve.Goals as goal

pub returns-in_err-reserve-clause-bits : goal.returns-in_err-reserve-clause-bits
returns-in_err-reserve-clause-bits c = grown-bits _ _ c.reserve.ensures.grown

pub returns-in_err-reserve-clause-stands : goal.returns-in_err-reserve-clause-stands
returns-in_err-reserve-clause-stands c = λ blocks stands. grown-stands _ _ _ _ _ blocks c.args.self.now.shaped c.reserve.ensures.grown stands

pub invariant_of-self : goal.invariant_of-self
invariant_of-self c = record {
  shaped = grown-shape _ _ _ _ _ c.args.self.now.shaped c.reserve.ensures.grown;
  summed = summed-kept _ _ _ _ _ _ _ _ (omega arith) (cells-grown _ _ _ c.reserve.ensures.grown) c.args.self.now.summed;
  topped = summed-kept _ _ _ _ _ _ _ _ (omega arith) (cells-grown _ _ _ c.reserve.ensures.grown) c.args.self.now.topped;
  full = c.args.self.now.full;
  full_tops = c.args.self.now.full_tops;
}

pub returns-in_err-take_pages-clause-bits : goal.returns-in_err-take_pages-clause-bits
returns-in_err-take_pages-clause-bits c = ap (λ (l : Lined). bucket_bits l.rows) c.take_pages.ensures.buckets ∙ grown-bits _ _ c.reserve.ensures.grown

pub returns-in_err-take_pages-clause-stands : goal.returns-in_err-take_pages-clause-stands
returns-in_err-take_pages-clause-stands c = λ blocks stands.
    let same = c.take_pages.ensures in
    rw (same.same.width, same.same.bits, same.rules, same.buckets) (grown-stands _ _ _ _ _ blocks c.args.self.now.shaped c.reserve.ensures.grown stands)

pub returns-clause-bits : goal.returns-clause-bits
returns-clause-bits c = ap (λ (l : Lined). bucket_bits l.rows) (c.own_summary.ensures.buckets ∙ c.take_pages.ensures.buckets) ∙ grown-bits _ _ c.reserve.ensures.grown

pub returns-clause-stands : goal.returns-clause-stands
returns-clause-stands c = λ blocks stands.
    let same = c.take_pages.ensures in
    let again = c.own_summary.ensures in
    rw (again.same.width, again.same.bits, again.rules, again.buckets, same.same.width, same.same.bits, same.rules, same.buckets) (grown-stands _ _ _ _ _ blocks c.args.self.now.shaped c.reserve.ensures.grown stands)

pub reserve-requires-clause-most : goal.reserve-requires-clause-most
reserve-requires-clause-most c = let long = first-long _ _ _ _ c.args.self.now.shaped in omega (arith, long, c.requires)
