use Rattle.std.proofs.Common.{◌≡◌, sym, ◌∙◌, ap, ◌*◌, ◌/◌, ◌<◌, length, get_or, arith, true}
use Rattle.lookup_table.specs.Table.{bucket_at}
use Rattle.lookup_table.specs.Lines.{Lined}
use Rattle.lookup_table.proofs.LineLaws.{rows-length, row-length}
use Rattle.lookup_table.proofs.WriteLaws.{put-lines, put-rows}
use Rattle.lookup_table.proofs.lines.Lines.put.Goals as goal

pub put_line-requires-clause-line : goal.put_line-requires-clause-line
put_line-requires-clause-line c =
    let e = ap (λ (v : Lined). v.rows) c.self.view_is in
    let n = rows-length c.self.inside.pages.items c.self.inside.len c.self.inside.count in
    let m = ap length e in
    omega (arith, c.requires.row)

pub put_line-requires-clause-places : goal.put_line-requires-clause-places
put_line-requires-clause-places c =
    let e = ap (λ (v : Lined). v.rows) c.self.view_is in
    let n = rows-length c.self.inside.pages.items c.self.inside.len c.self.inside.count in
    let m = ap length e in
    let line : c.args.j < c.self.inside.count = omega (arith, c.requires.row) in
    let long : length c.args.row.now.bits ≡ c.self.inside.len = c.requires.length ∙ ap (λ rs. length (bucket_at rs c.args.j).bits) (sym e) ∙ row-length c.self.inside.pages.items c.self.inside.len c.self.inside.count c.args.j line in
    let t = c.self.invariant.lines.within in
    omega arith

pub put_line-requires-clause-own : goal.put_line-requires-clause-own
put_line-requires-clause-own c = λ p h.
    let at : 512 * p / 512 ≡ p = omega arith in
    ap (λ (v : Lined). get_or v.own p true) c.self.view_is ∙ ap (λ q. get_or c.args.self.now.own q true) (sym at) ∙ c.requires.own.each (512 * p) (omega arith) h

pub invariant_of-self : goal.invariant_of-self
invariant_of-self c =
    let e = ap (λ (v : Lined). v.rows) c.self.view_is in
    let n = rows-length c.self.inside.pages.items c.self.inside.len c.self.inside.count in
    let m = ap length e in
    let line : c.args.j < c.self.inside.count = omega (arith, c.requires.row) in
    let long : length c.args.row.now.bits ≡ c.self.inside.len = c.requires.length ∙ ap (λ rs. length (bucket_at rs c.args.j).bits) (sym e) ∙ row-length c.self.inside.pages.items c.self.inside.len c.self.inside.count c.args.j line in
    let t = c.self.invariant.lines.within in
    record { lines = put-lines c.self.inside.count c.self.inside.len c.args.j c.args.row.now.bits c.self.inside.pages.items c.put_line.new.pages.items long c.self.invariant.lines c.put_line.ensures.put; full = c.put_line.ensures.room ∙ c.self.invariant.full ∙ sym c.put_line.ensures.put.alike.long }

pub returns-clause-rows : goal.returns-clause-rows
returns-clause-rows c =
    let e = ap (λ (v : Lined). v.rows) c.self.view_is in
    let n = rows-length c.self.inside.pages.items c.self.inside.len c.self.inside.count in
    let m = ap length e in
    let line : c.args.j < c.self.inside.count = omega (arith, c.requires.row) in
    let long : length c.args.row.now.bits ≡ c.self.inside.len = c.requires.length ∙ ap (λ rs. length (bucket_at rs c.args.j).bits) (sym e) ∙ row-length c.self.inside.pages.items c.self.inside.len c.self.inside.count c.args.j line in
    let t = c.self.invariant.lines.within in
    rw (← e) (put-rows c.self.inside.count c.self.inside.len c.args.j c.args.row.now.bits c.self.inside.pages.items c.put_line.new.pages.items long line c.put_line.ensures.put)
