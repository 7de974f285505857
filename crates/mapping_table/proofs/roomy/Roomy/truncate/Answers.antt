use Rattle.std.proofs.Common.{◌∙◌, ap, ◌-◌, ◌*◌, ◌/◌, ◌≤◌, length, take, arith}
use Rattle.shared_pages.proofs.PageLaws.{cut-last}
use Rattle.shared_pages.specs.Paged.{items_in}
use Rattle.std.proofs.lemmas.List.{length-map, length-take}
use Rattle.mapping_table.proofs.roomy.Roomy.truncate.Goals as goal

pub returns-clause-items : goal.returns-clause-items
returns-clause-items g c =
    let n = ap (λ v. length v.own) c.self.view_is in
    let m = length-map c.self.inside.whole.items (λ page. page.own) in
    let few : 512 * length c.self.inside.whole.items ≤ c.args.len = omega (arith, ap length c.reopen.ensures.taken.own, length-take (c.args.len / 512) c.args.self.now.own) in
    ap (λ t. items_in c.self.inside.whole.items t) (c.truncate.ensures.items ∙ ap (λ k. take (c.args.len - 512 * k) c.self.inside.rest.items) (omega arith))
    ∙ cut-last c.self.inside.whole.items c.self.inside.rest.items c.args.len c.self.invariant.whole few
    ∙ ap (λ v. take c.args.len v.items) c.self.view_is ∙ c.reopen.ensures.items
