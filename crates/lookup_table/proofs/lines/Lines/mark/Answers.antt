use Rattle.std.proofs.Common.{sym, ◌∙◌, ap, ◌/◌, length, get_or, arith, true, rules}
use Rattle.lookup_table.specs.Lines.{Lined}
use Rattle.lookup_table.proofs.LineLaws.{rows-length, page-long, lines-kept, rows-marked, place-within}
use Rattle.lookup_table.proofs.WriteLaws.{owns-same, own-page}
use Rattle.lookup_table.proofs.lines.Lines.mark.Goals as goal

pub index_mut-page-requires : goal.index_mut-page-requires
index_mut-page-requires c =
    let e = ap (λ (v : Lined). v.rows) c.self.view_is in
    let n = rows-length c.self.inside.pages.items c.self.inside.len c.self.inside.count in
    let m = ap length e in
    let p = place-within c.self.inside.pages.items c.self.inside.len c.self.inside.count c.args.r (omega arith) (rw (← e) at c.requires.place) in
    let t = c.self.invariant.lines.within in
    omega arith

pub mark_lines-requires-clause-own : goal.mark_lines-requires-clause-own
mark_lines-requires-clause-own c =
    let e = ap (λ (v : Lined). v.rows) c.self.view_is in
    let n = rows-length c.self.inside.pages.items c.self.inside.len c.self.inside.count in
    let m = ap length e in
    let p = place-within c.self.inside.pages.items c.self.inside.len c.self.inside.count c.args.r (omega arith) (rw (← e) at c.requires.place) in
    let t = c.self.invariant.lines.within in
    own-page c.self.inside.pages.items (c.args.r / 512) c.index_mut-page.result.now (omega arith) c.index_mut-page.ensures.value
    (ap (λ (v : Lined). get_or v.own (c.args.r / 512) true) c.self.view_is ∙ c.requires.own.each c.args.r (omega arith) (omega arith))

pub mark_lines-requires-clause-lines : goal.mark_lines-requires-clause-lines
mark_lines-requires-clause-lines c =
    let e = ap (λ (v : Lined). v.rows) c.self.view_is in
    let n = rows-length c.self.inside.pages.items c.self.inside.len c.self.inside.count in
    let m = ap length e in
    let p = place-within c.self.inside.pages.items c.self.inside.len c.self.inside.count c.args.r (omega arith) (rw (← e) at c.requires.place) in
    let t = c.self.invariant.lines.within in
    let l = page-long c.self.inside.pages.items c.self.inside.count c.self.inside.len (c.args.r / 512) c.index_mut-page.result.now c.self.invariant.lines (omega arith) c.index_mut-page.ensures.value in
    let f = c.requires.within in
    omega arith

pub mark_lines-requires-clause-small : goal.mark_lines-requires-clause-small
mark_lines-requires-clause-small c =
    let e = ap (λ (v : Lined). v.rows) c.self.view_is in
    let n = rows-length c.self.inside.pages.items c.self.inside.len c.self.inside.count in
    let m = ap length e in
    let f = c.self.invariant.lines.few in
    let h = c.requires.within in
    omega arith

pub invariant_of-self : goal.invariant_of-self
invariant_of-self c =
    let e = ap (λ (v : Lined). v.rows) c.self.view_is in
    let n = rows-length c.self.inside.pages.items c.self.inside.len c.self.inside.count in
    let m = ap length e in
    let p = place-within c.self.inside.pages.items c.self.inside.len c.self.inside.count c.args.r (omega arith) (rw (← e) at c.requires.place) in
    let t = c.self.invariant.lines.within in
    record { lines = lines-kept c.self.inside.pages.items c.self.inside.count c.self.inside.len c.args.from c.args.to c.args.r c.index_mut-page.result.now c.mark_lines.new.page c.self.invariant.lines p c.index_mut-page.ensures.value c.mark_lines.ensures.marked; full = search rules }

pub returns-clause-rows : goal.returns-clause-rows
returns-clause-rows c =
    let e = ap (λ (v : Lined). v.rows) c.self.view_is in
    let n = rows-length c.self.inside.pages.items c.self.inside.len c.self.inside.count in
    let m = ap length e in
    let p = place-within c.self.inside.pages.items c.self.inside.len c.self.inside.count c.args.r (omega arith) (rw (← e) at c.requires.place) in
    let t = c.self.invariant.lines.within in
    let f = c.requires.within in
    rw (← e) (rows-marked c.self.inside.pages.items c.self.inside.count c.self.inside.len c.args.from c.args.to c.args.r c.index_mut-page.result.now c.mark_lines.new.page c.self.invariant.lines p (omega arith) c.index_mut-page.ensures.value c.mark_lines.ensures.marked)

pub returns-clause-own : goal.returns-clause-own
returns-clause-own c =
    let e = ap (λ (v : Lined). v.rows) c.self.view_is in
    let n = rows-length c.self.inside.pages.items c.self.inside.len c.self.inside.count in
    let m = ap length e in
    let p = place-within c.self.inside.pages.items c.self.inside.len c.self.inside.count c.args.r (omega arith) (rw (← e) at c.requires.place) in
    let t = c.self.invariant.lines.within in
    let was = own-page c.self.inside.pages.items (c.args.r / 512) c.index_mut-page.result.now (omega arith) c.index_mut-page.ensures.value
    (ap (λ (v : Lined). get_or v.own (c.args.r / 512) true) c.self.view_is ∙ c.requires.own.each c.args.r (omega arith) (omega arith)) in
    owns-same c.self.inside.pages.items (c.args.r / 512) c.index_mut-page.result.now c.mark_lines.new.page c.index_mut-page.ensures.value (c.mark_lines.ensures.own ∙ sym was) ∙ ap (λ (v : Lined). v.own) c.self.view_is
