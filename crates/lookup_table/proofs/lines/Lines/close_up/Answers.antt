use Rattle.std.proofs.Common.{◌≡◌, sym, ◌∙◌, ap, ℕ, ◌+◌, length, arith, subst}
use Rattle.shared_pages.specs.Paged.{owns_of}
use Rattle.lookup_table.specs.Table.{bucket_at}
use Rattle.lookup_table.specs.Lines.{Lined, OwnsPlaces}
use Rattle.lookup_table.proofs.LineLaws.{rows-length, first-within, first-length, owned-from}
use Rattle.lookup_table.proofs.WriteLaws.{closed-lines, closed-rows}
use Rattle.lookup_table.proofs.lines.Lines.close_up.Goals as goal

pub close_pages-requires-clause-order : goal.close_pages-requires-clause-order
close_pages-requires-clause-order c =
    let e = ap (λ (v : Lined). v.rows) c.self.view_is in
    let n = rows-length c.self.inside.pages.items c.self.inside.len c.self.inside.count in
    let m = ap length e in
    let p = first-within c.self.inside.pages.items c.self.inside.len c.self.inside.count (c.args.first + c.args.n) (omega arith) (rw (← e) at c.requires.within) in
    let t = c.self.invariant.lines.within in
    omega arith

pub close_pages-requires-clause-places : goal.close_pages-requires-clause-places
close_pages-requires-clause-places c =
    let e = ap (λ (v : Lined). v.rows) c.self.view_is in
    let n = rows-length c.self.inside.pages.items c.self.inside.len c.self.inside.count in
    let m = ap length e in
    let p = first-within c.self.inside.pages.items c.self.inside.len c.self.inside.count (c.args.first + c.args.n) (omega arith) (rw (← e) at c.requires.within) in
    let t = c.self.invariant.lines.within in
    let s = c.self.invariant.lines.small in
    omega arith

pub close_pages-requires-clause-own : goal.close_pages-requires-clause-own
close_pages-requires-clause-own c =
    let e = ap (λ (v : Lined). v.rows) c.self.view_is in
    let n = rows-length c.self.inside.pages.items c.self.inside.len c.self.inside.count in
    let m = ap length e in
    let p = first-within c.self.inside.pages.items c.self.inside.len c.self.inside.count (c.args.first + c.args.n) (omega arith) (rw (← e) at c.requires.within) in
    let f : length (bucket_at c.args.self.now.rows 0).bits ≡ c.self.inside.len = ap (λ rs. length (bucket_at rs 0).bits) (sym e) ∙ first-length c.self.inside.pages.items c.self.inside.len c.self.inside.count (omega arith) in
    owned-from c.self.inside.pages.items c.args.first c.self.inside.len _ (omega (arith, c.requires.places)) (omega (arith, c.div_ceil-end.ensures))
    (subst (λ (k : ℕ). OwnsPlaces c.args.first k (owns_of c.self.inside.pages.items)) f (subst (OwnsPlaces c.args.first (length (bucket_at c.args.self.now.rows 0).bits)) (sym (ap (λ (v : Lined). v.own) c.self.view_is)) c.requires.own))

pub overflow_sub-self : goal.overflow_sub-self
overflow_sub-self c =
    let e = ap (λ (v : Lined). v.rows) c.self.view_is in
    let n = rows-length c.self.inside.pages.items c.self.inside.len c.self.inside.count in
    let m = ap length e in
    let p = first-within c.self.inside.pages.items c.self.inside.len c.self.inside.count (c.args.first + c.args.n) (omega arith) (rw (← e) at c.requires.within) in
    let t = c.self.invariant.lines.within in
    omega arith

pub invariant_of-self : goal.invariant_of-self
invariant_of-self c =
    let e = ap (λ (v : Lined). v.rows) c.self.view_is in
    let n = rows-length c.self.inside.pages.items c.self.inside.len c.self.inside.count in
    let m = ap length e in
    let p = first-within c.self.inside.pages.items c.self.inside.len c.self.inside.count (c.args.first + c.args.n) (omega arith) (rw (← e) at c.requires.within) in
    let t = c.self.invariant.lines.within in
    record { lines = closed-lines c.self.inside.count c.self.inside.len c.args.first c.args.n _ c.self.inside.pages.items c.close_pages.new.pages.items c.self.invariant.lines p (omega arith) c.close_pages.ensures.closed; full = omega (arith, c.close_pages.ensures.room, c.self.invariant.full, c.close_pages.ensures.closed.alike.long) }

pub returns-clause-rows : goal.returns-clause-rows
returns-clause-rows c =
    let e = ap (λ (v : Lined). v.rows) c.self.view_is in
    let n = rows-length c.self.inside.pages.items c.self.inside.len c.self.inside.count in
    let m = ap length e in
    let p = first-within c.self.inside.pages.items c.self.inside.len c.self.inside.count (c.args.first + c.args.n) (omega arith) (rw (← e) at c.requires.within) in
    let t = c.self.invariant.lines.within in
    rw (← e) (closed-rows c.self.inside.count c.self.inside.len c.args.first c.args.n _ c.self.inside.pages.items c.close_pages.new.pages.items c.self.invariant.lines p (omega arith) c.close_pages.ensures.closed)
