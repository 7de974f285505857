use Rattle.std.proofs.Common.{ap, ◌*◌, ◌/◌, ◌^◌, ◌<◌, length, arith}
use Rattle.lookup_table.proofs.LineLaws.{rows-length, lines-zero, rows-zero}
use Rattle.lookup_table.proofs.lines.Lines.zeros.Goals as goal

pub invariant_of-result : goal.invariant_of-result
invariant_of-result c =
    let none : 512 * length c.new-pages.result.items < 2 ^ 32 = omega (arith, ap length c.new-pages.ensures.items) in
    record { lines = lines-zero _ _ _ _ c.new-pages.ensures.items c.add_pages.ensures.more c.requires.few (omega (arith, c.in_ok-add_pages.ensures.room, c.div_ceil.ensures)) (c.add_pages.ensures.small none); full = c.add_pages.ensures.full }

pub returns-clause-long : goal.returns-clause-long
returns-clause-long c = rows-length _ _ _

pub returns-clause-zeros : goal.returns-clause-zeros
returns-clause-zeros c = rows-zero _ _ _ _ c.new-pages.ensures.items c.add_pages.ensures.more

pub returns-clause-own : goal.returns-clause-own
returns-clause-own c = record {
  each = λ r a b. c.in_ok-add_pages.ensures.own.own (r / 512) (omega (arith, ap length c.new-pages.ensures.items)) (omega (arith, c.in_ok-add_pages.ensures.room, c.div_ceil.ensures));
}
