use Rattle.std.proofs.Common.{◌≡◌, sym, ◌∙◌, ap, length, replicate, arith, false}
use Rattle.bit_rows.specs.Row.{either}
use Rattle.lookup_table.specs.Table.{bucket_at}
use Rattle.lookup_table.specs.Lines.{Lined}
use Rattle.std.proofs.lemmas.List.{length-replicate}
use Rattle.lookup_table.proofs.LineLaws.{rows-length, row-length}
use Rattle.lookup_table.proofs.WriteLaws.{either-zeros}
use Rattle.lookup_table.proofs.lines.Lines.row.Goals as goal

pub or_into-requires-clause-length : goal.or_into-requires-clause-length
or_into-requires-clause-length c =
    let e = ap (λ (v : Lined). v.rows) c.self.view_is in
    let n = rows-length c.self.inside.pages.items c.self.inside.len c.self.inside.count in
    let m = ap length e in
    ap length c.in_ok-row.ensures.zeros ∙ length-replicate c.self.inside.len false ∙ sym (row-length c.self.inside.pages.items c.self.inside.len c.self.inside.count c.args.j (omega arith)) ∙ ap (λ rs. length (bucket_at rs c.args.j).bits) e

pub returns : goal.returns
returns c =
    let e = ap (λ (v : Lined). v.rows) c.self.view_is in
    let n = rows-length c.self.inside.pages.items c.self.inside.len c.self.inside.count in
    let m = ap length e in
    let long : c.self.inside.len ≡ length (bucket_at c.args.self.now.rows c.args.j).bits = sym (row-length c.self.inside.pages.items c.self.inside.len c.self.inside.count c.args.j (omega arith)) ∙ ap (λ rs. length (bucket_at rs c.args.j).bits) e in
    c.or_into.ensures.bits ∙ ap (λ bs. either bs (bucket_at c.args.self.now.rows c.args.j).bits) (c.in_ok-row.ensures.zeros ∙ ap (λ k. replicate k false) long) ∙ either-zeros (bucket_at c.args.self.now.rows c.args.j).bits
