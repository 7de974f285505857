use Rattle.shared_pages.proofs.PageLaws.{copied-length}
use Rattle.std.proofs.Common.{◌∙◌, ap, sym}
use Rattle.lookup_table.specs.Lines.{Lined}
use Rattle.lookup_table.proofs.LineLaws.{same-lines, same-rows, all-common}
use Rattle.lookup_table.proofs.lines.Lines.settle.Goals as goal

pub invariant_of-self : goal.invariant_of-self
invariant_of-self c = record { lines = same-lines c.self.inside.pages.items c.settle_pages.new.pages.items c.self.inside.count c.self.inside.len c.settle_pages.ensures.items c.self.invariant.lines; full = c.settle_pages.ensures.room ∙ c.self.invariant.full ∙ sym (copied-length c.settle_pages.new.pages.items c.self.inside.pages.items c.settle_pages.ensures.items) }

pub returns-in_err-settle_pages-clause-rows : goal.returns-in_err-settle_pages-clause-rows
returns-in_err-settle_pages-clause-rows c = same-rows c.self.inside.pages.items c.settle_pages.new.pages.items c.self.inside.len c.self.inside.count c.settle_pages.ensures.items ∙ ap (λ (v : Lined). v.rows) c.self.view_is

pub invariant_of-self-2 : goal.invariant_of-self-2
invariant_of-self-2 c = record { lines = same-lines c.self.inside.pages.items c.settle_pages.new.pages.items c.self.inside.count c.self.inside.len c.settle_pages.ensures.items c.self.invariant.lines; full = c.settle_pages.ensures.room ∙ c.self.invariant.full ∙ sym (copied-length c.settle_pages.new.pages.items c.self.inside.pages.items c.settle_pages.ensures.items) }

pub returns-clause-rows : goal.returns-clause-rows
returns-clause-rows c = same-rows c.self.inside.pages.items c.settle_pages.new.pages.items c.self.inside.len c.self.inside.count c.settle_pages.ensures.items ∙ ap (λ (v : Lined). v.rows) c.self.view_is

pub returns-clause-common : goal.returns-clause-common
returns-clause-common c = all-common _ c.in_ok-settle_pages.ensures.common
