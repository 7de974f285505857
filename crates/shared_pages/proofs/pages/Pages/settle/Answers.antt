use Rattle.std.proofs.Common.{◌∙◌}
use Rattle.shared_pages.proofs.PageLaws.{same-list, same-paged}
use Rattle.shared_pages.proofs.pages.Pages.settle.Goals as goal

pub invariant_of-self-2 : goal.invariant_of-self-2
invariant_of-self-2 g c =
    same-paged c.settle_pages.new.pages.items c.self.inside.whole.items c.settle.new.self.items c.self.inside.last.items c.self.inside.len c.settle_pages.ensures.items c.settle.ensures.items c.self.invariant

pub returns : goal.returns
returns g c =
    same-list c.settle_pages.new.pages.items c.self.inside.whole.items c.settle.new.self.items c.self.inside.last.items c.settle_pages.ensures.items c.settle.ensures.items ∙ c.self.view_is
