use Rattle.std.proofs.Common.{ap, length, arith}
use Rattle.lookup_table.specs.Lines.{Lined}
use Rattle.lookup_table.proofs.LineLaws.{rows-length, raise-room, raised}
use Rattle.lookup_table.proofs.lines.Lines.raise.Goals as goal

pub overflow_add-self : goal.overflow_add-self
overflow_add-self c =
    let e = ap (λ (v : Lined). v.rows) c.self.view_is in
    let n = rows-length c.self.inside.pages.items c.self.inside.len c.self.inside.count in
    let m = ap length e in
    let r = raise-room c.self.inside.pages.items c.self.inside.len c.self.inside.count c.args.n (omega arith) (rw (← e) at c.requires.room) in
    let s = c.self.invariant.lines.small in
    let w = c.self.invariant.lines.within in
    omega arith

pub invariant_of-self : goal.invariant_of-self
invariant_of-self c =
    let e = ap (λ (v : Lined). v.rows) c.self.view_is in
    let n = rows-length c.self.inside.pages.items c.self.inside.len c.self.inside.count in
    let m = ap length e in
    let r = raise-room c.self.inside.pages.items c.self.inside.len c.self.inside.count c.args.n (omega arith) (rw (← e) at c.requires.room) in
    let w = c.self.invariant.lines.within in
    record { lines = record { each = c.self.invariant.lines.each; within = omega arith; small = c.self.invariant.lines.small; few = c.self.invariant.lines.few; past = λ j r h l. c.self.invariant.lines.past j r h (omega arith) }; full = omega (arith, c.self.invariant.full) }

pub returns-clause-rows : goal.returns-clause-rows
returns-clause-rows c =
    let e = ap (λ (v : Lined). v.rows) c.self.view_is in
    let n = rows-length c.self.inside.pages.items c.self.inside.len c.self.inside.count in
    let m = ap length e in
    let r = raise-room c.self.inside.pages.items c.self.inside.len c.self.inside.count c.args.n (omega arith) (rw (← e) at c.requires.room) in
    rw (← e) (raised c.self.inside.pages.items c.self.inside.len c.self.inside.count c.args.n c.self.invariant.lines r)
