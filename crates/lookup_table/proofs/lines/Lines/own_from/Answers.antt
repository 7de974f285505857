use Rattle.shared_pages.proofs.PageLaws.{copied-length}
use Rattle.std.proofs.Common.{◌≡◌, sym, ◌∙◌, ap, length, arith}
use Rattle.lookup_table.specs.Table.{bucket_at}
use Rattle.lookup_table.specs.Lines.{Lined}
use Rattle.lookup_table.proofs.LineLaws.{rows-length, first-length, same-lines, same-rows, owns-places}
use Rattle.lookup_table.proofs.lines.Lines.own_from.Goals as goal

pub invariant_of-self : goal.invariant_of-self
invariant_of-self c = record { lines = same-lines c.self.inside.pages.items c.own_plain_pages.new.pages.items c.self.inside.count c.self.inside.len c.own_plain_pages.ensures.items c.self.invariant.lines; full = c.own_plain_pages.ensures.room ∙ c.self.invariant.full ∙ sym (copied-length c.own_plain_pages.new.pages.items c.self.inside.pages.items c.own_plain_pages.ensures.items) }

pub returns-in_err-own_plain_pages-clause-rows : goal.returns-in_err-own_plain_pages-clause-rows
returns-in_err-own_plain_pages-clause-rows c = same-rows c.self.inside.pages.items c.own_plain_pages.new.pages.items c.self.inside.len c.self.inside.count c.own_plain_pages.ensures.items ∙ ap (λ (v : Lined). v.rows) c.self.view_is

pub invariant_of-self-2 : goal.invariant_of-self-2
invariant_of-self-2 c = record { lines = same-lines c.self.inside.pages.items c.own_plain_pages.new.pages.items c.self.inside.count c.self.inside.len c.own_plain_pages.ensures.items c.self.invariant.lines; full = c.own_plain_pages.ensures.room ∙ c.self.invariant.full ∙ sym (copied-length c.own_plain_pages.new.pages.items c.self.inside.pages.items c.own_plain_pages.ensures.items) }

pub returns-clause-rows : goal.returns-clause-rows
returns-clause-rows c = same-rows c.self.inside.pages.items c.own_plain_pages.new.pages.items c.self.inside.len c.self.inside.count c.own_plain_pages.ensures.items ∙ ap (λ (v : Lined). v.rows) c.self.view_is

pub returns-clause-own : goal.returns-clause-own
returns-clause-own c =
    let e = ap (λ (v : Lined). v.rows) c.self.view_is in
    let n = rows-length c.self.inside.pages.items c.self.inside.len c.self.inside.count in
    let m = ap length e in
    let f : length (bucket_at c.args.self.now.rows 0).bits ≡ c.self.inside.len = ap (λ rs. length (bucket_at rs 0).bits) (sym e) ∙ first-length c.self.inside.pages.items c.self.inside.len c.self.inside.count (omega (arith, c.requires)) in
    rw f (owns-places c.own_plain_pages.new.pages.items c.args.from c.self.inside.len _ _ (omega arith) (omega (arith, c.div_ceil-end.ensures)) (record { own = c.in_ok-own_plain_pages.ensures.own }))
