use Rattle.std.proofs.Common.{◌∙◌, ap, map}
use Rattle.shared_pages.proofs.PageLaws.{same-list, same-paged}
use Rattle.shared_pages.proofs.pages.PagesDuplicate.copy.Goals as goal

pub invariant_of-result : goal.invariant_of-result
invariant_of-result g c =
    same-paged c.in_ok-whole.whole.items c.self.inside.whole.items c.in_ok-last.last.items c.self.inside.last.items c.self.inside.len
    (c.in_ok-whole.ensures ∙ ap (λ pages. map (λ page. page.items) pages) c.as_slice.ensures.value) c.in_ok-last.ensures c.self.invariant

pub returns : goal.returns
returns g c =
    same-list c.in_ok-whole.whole.items c.self.inside.whole.items c.in_ok-last.last.items c.self.inside.last.items
    (c.in_ok-whole.ensures ∙ ap (λ pages. map (λ page. page.items) pages) c.as_slice.ensures.value) c.in_ok-last.ensures
    ∙ c.self.view_is
