use Rattle.std.proofs.Common.{◌≡◌, sym, ◌∙◌, ap, ◌+◌, length, arith}
use Rattle.lookup_table.specs.Table.{bucket_at}
use Rattle.lookup_table.specs.Lines.{Lined}
use Rattle.lookup_table.proofs.LineLaws.{rows-length, first-length, lines-more_pages, rows-grown, rows-room, owns-places}
use Rattle.lookup_table.proofs.lines.Lines.reserve.Goals as goal

pub invariant_of-self : goal.invariant_of-self
invariant_of-self c = record { lines = lines-more_pages c.self.inside.count c.self.inside.len c.self.inside.pages.items c.open_pages.new.pages.items c.self.invariant.lines c.open_pages.ensures.more (c.open_pages.ensures.small c.self.invariant.lines.small); full = c.open_pages.ensures.full }

pub returns-in_err-open_pages-clause-grown : goal.returns-in_err-open_pages-clause-grown
returns-in_err-open_pages-clause-grown c = rw (← ap (λ (v : Lined). v.rows) c.self.view_is) (rows-grown _ _ _ _ c.open_pages.ensures.more)

pub invariant_of-self-2 : goal.invariant_of-self-2
invariant_of-self-2 c = record { lines = lines-more_pages c.self.inside.count c.self.inside.len c.self.inside.pages.items c.open_pages.new.pages.items c.self.invariant.lines c.open_pages.ensures.more (c.open_pages.ensures.small c.self.invariant.lines.small); full = c.open_pages.ensures.full }

pub returns-clause-grown : goal.returns-clause-grown
returns-clause-grown c = rw (← ap (λ (v : Lined). v.rows) c.self.view_is) (rows-grown _ _ _ _ c.open_pages.ensures.more)

pub returns-clause-room : goal.returns-clause-room
returns-clause-room c = rows-room c.open_pages.new.pages.items c.self.inside.len c.self.inside.count c.args.n (omega (arith, c.in_ok-open_pages.ensures.room, c.div_ceil-end.ensures))

pub returns-clause-own : goal.returns-clause-own
returns-clause-own c =
    let e = ap (λ (v : Lined). v.rows) c.self.view_is in
    let n = rows-length c.self.inside.pages.items c.self.inside.len c.self.inside.count in
    let m = ap length e in
    let f : length (bucket_at c.args.self.now.rows 0).bits ≡ c.self.inside.len = ap (λ rs. length (bucket_at rs 0).bits) (sym e) ∙ first-length c.self.inside.pages.items c.self.inside.len c.self.inside.count (omega (arith, c.requires.some)) in
    rw f (owns-places c.open_pages.new.pages.items c.self.inside.len (c.self.inside.len + c.args.n) _ _ (omega arith) (omega (arith, c.div_ceil-end.ensures)) c.in_ok-open_pages.ensures.own)

pub open_pages-requires-clause-most : goal.open_pages-requires-clause-most
open_pages-requires-clause-most c =
    let e = ap (λ (v : Lined). v.rows) c.self.view_is in
    let n = rows-length c.self.inside.pages.items c.self.inside.len c.self.inside.count in
    let m = ap length e in
    let f : length (bucket_at c.args.self.now.rows 0).bits ≡ c.self.inside.len = ap (λ rs. length (bucket_at rs 0).bits) (sym e) ∙ first-length c.self.inside.pages.items c.self.inside.len c.self.inside.count (omega (arith, c.requires.some)) in
    omega (arith, f, c.requires.most, c.div_ceil-end.ensures)
