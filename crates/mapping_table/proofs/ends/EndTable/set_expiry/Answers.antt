use Rattle.std.proofs.Common.{rules, refl, ◌∙◌, ap, ◌+◌, ◌≤◌, length, arith}
use Rattle.set_tables.specs.Rows.{end_renewed, ends_renewed}
use Rattle.mapping_table.specs.Latest.{AreBounded}
use Rattle.mapping_table.proofs.MoveLaws.{passed-all}
use Rattle.mapping_table.proofs.LatestLaws.{bounded-renewed}
use Rattle.mapping_table.proofs.ends.EndTable.set_expiry.Goals as goal

pub invariant_of-self : goal.invariant_of-self
invariant_of-self c =
    let bounded : AreBounded c.renew.new.ends.items c.raise.new.latest.items =
    bounded-renewed c.args.first c.args.n _ _ _ c.args.expiry c.self.inside.ends.items c.renew.new.ends.items c.self.inside.latest.items c.raise.new.latest.items (omega arith) (omega arith) (omega arith) c.raise.ensures.len
    c.renew.ensures.items c.raise.ensures.items c.self.invariant.bounded in
    record {
      bounded = search rules;
      held = omega (arith, c.self.invariant.held, c.renew.ensures.items.long, c.renew.ensures.spare, c.raise.ensures.capacity);
    }

pub returns-clause-items : goal.returns-clause-items
returns-clause-items c =
    let range : c.args.first + c.args.n ≤ length c.self.inside.ends.items = rw (ap (λ v. v.items) c.self.view_is) c.requires.range in
    passed-all (end_renewed c.args.expiry) c.args.first c.args.n (c.args.first + c.args.n) c.self.inside.ends.items c.renew.new.ends.items refl range c.renew.ensures.items ∙ ap (λ v. ends_renewed v.items c.args.first c.args.n c.args.expiry) c.self.view_is
