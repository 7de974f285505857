use Rattle.std.proofs.Common.{◌∙◌, ap, map, arith}
use Rattle.shared_pages.proofs.PageLaws.{copied, copied-length, copied-whole}
use Rattle.shared_pages.specs.Paged.{items_in}
use Rattle.mapping_table.proofs.roomy.Roomy.copy.Goals as goal

pub invariant_of-result : goal.invariant_of-result
invariant_of-result g c =
    let same = ap (λ xs. map (λ page. page.items) xs) (c.in_ok-whole.ensures.pages ∙ c.as_slice.ensures.value) in
    let len = copied-length c.in_ok-whole.whole.items c.self.inside.whole.items same in
    record { whole = copied-whole c.in_ok-whole.whole.items c.self.inside.whole.items same c.self.invariant.whole; within = omega arith; held = omega arith; counted = omega (arith, c.in_ok-rest.ensures.len) }

pub returns-clause-items : goal.returns-clause-items
returns-clause-items g c =
    let same = ap (λ xs. map (λ page. page.items) xs) (c.in_ok-whole.ensures.pages ∙ c.as_slice.ensures.value) in
    ap (λ t. items_in c.in_ok-whole.whole.items t) (c.in_ok-rest.ensures.items ∙ c.as_slice-2.ensures.value)
    ∙ copied c.in_ok-whole.whole.items c.self.inside.whole.items c.self.inside.rest.items same ∙ ap (λ v. v.items) c.self.view_is
