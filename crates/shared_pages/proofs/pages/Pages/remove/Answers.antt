use Rattle.std.proofs.Common.{rules, ◌∙◌, ap, length, arith}
use Rattle.shared_pages.specs.Paged.{items_in}
use Rattle.shared_pages.proofs.PageLaws.{copied-whole, same-list, same-paged, taken-out, stood-there}
use Rattle.shared_pages.proofs.pages.Pages.remove.Goals as goal

pub invariant_of-self-in_err-own_pages : goal.invariant_of-self-in_err-own_pages
invariant_of-self-in_err-own_pages g c =
    same-paged c.own_pages.new.pages.items c.self.inside.whole.items c.own.new.self.items c.self.inside.last.items c.self.inside.len c.own_pages.ensures.items c.own.ensures.items c.self.invariant

pub returns-in_err-own_pages-clause-err : goal.returns-in_err-own_pages-clause-err
returns-in_err-own_pages-clause-err g c =
    let same = same-list c.own_pages.new.pages.items c.self.inside.whole.items c.own.new.self.items c.self.inside.last.items c.own_pages.ensures.items c.own.ensures.items ∙ c.self.view_is in
    search (rules, same)

pub take_out-item-requires-clause-whole : goal.take_out-item-requires-clause-whole
take_out-item-requires-clause-whole g c = copied-whole c.own_pages.new.pages.items c.self.inside.whole.items c.own_pages.ensures.items c.self.invariant.whole

pub take_out-item-requires-clause-place : goal.take_out-item-requires-clause-place
take_out-item-requires-clause-place g c =
    let same = ap length (same-list c.own_pages.new.pages.items c.self.inside.whole.items c.own.new.self.items c.self.inside.last.items c.own_pages.ensures.items c.own.ensures.items ∙ c.self.view_is) in
    omega (arith, c.requires)

pub returns-clause-item : goal.returns-clause-item
returns-clause-item g c =
    stood-there (items_in c.take_out-item.new.whole.items c.take_out-item.new.last.items) c.args.self.now c.args.i c.take_out-item.result c.requires
    (c.take_out-item.ensures.item ∙ same-list c.own_pages.new.pages.items c.self.inside.whole.items c.own.new.self.items c.self.inside.last.items c.own_pages.ensures.items c.own.ensures.items ∙ c.self.view_is)

pub returns-clause-ok : goal.returns-clause-ok
returns-clause-ok g c =
    c.drop_empty.ensures.items
    ∙ taken-out (items_in c.take_out-item.new.whole.items c.take_out-item.new.last.items) c.args.self.now c.args.i c.take_out-item.result c.requires
    (c.take_out-item.ensures.item ∙ same-list c.own_pages.new.pages.items c.self.inside.whole.items c.own.new.self.items c.self.inside.last.items c.own_pages.ensures.items c.own.ensures.items ∙ c.self.view_is)
