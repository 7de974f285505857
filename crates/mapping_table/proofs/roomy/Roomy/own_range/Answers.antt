use Rattle.std.proofs.Common.{◌∙◌, ap, arith}
use Rattle.shared_pages.proofs.PageLaws.{copied, copied-length, copied-whole}
use Rattle.mapping_table.proofs.roomy.Roomy.own_range.Goals as goal

pub invariant_of-self : goal.invariant_of-self
invariant_of-self g c =
    let n = copied-length c.own_plain_pages.new.pages.items c.self.inside.whole.items c.own_plain_pages.ensures.items in
    record {
      whole = copied-whole c.own_plain_pages.new.pages.items c.self.inside.whole.items c.own_plain_pages.ensures.items c.self.invariant.whole;
      within = c.self.invariant.within;
      held = c.self.invariant.held;
      counted = omega (arith, c.self.invariant.counted);
    }

pub returns-clause-items : goal.returns-clause-items
returns-clause-items g c =
    copied c.own_plain_pages.new.pages.items c.self.inside.whole.items c.self.inside.rest.items c.own_plain_pages.ensures.items ∙ ap (λ v. v.items) c.self.view_is
