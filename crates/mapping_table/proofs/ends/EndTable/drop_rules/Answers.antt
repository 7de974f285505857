use Rattle.std.proofs.Common.{◌≡◌, refl, ◌∙◌, ap, subst, ◌+◌, ◌-◌, ◌/◌, ◌≤◌, length, arith, List}
use Rattle.set_tables.specs.Rows.{lowered_place, ends_without}
use Rattle.set_tables.specs.declared.End.{End}
use Rattle.mapping_table.specs.Latest.{AreFound}
use Rattle.mapping_table.proofs.MoveLaws.{moved-all}
use Rattle.mapping_table.proofs.LatestLaws.{bounded-dropped}
use Rattle.mapping_table.proofs.ends.EndTable.drop_rules.Goals as goal

pub returns-clause-items : goal.returns-clause-items
returns-clause-items c =
    let a : c.len-len.result ≡ length c.close_up.new.ends.items = c.len-len.ensures in
    let b : length c.close_up.new.ends.items ≡ length c.self.inside.ends.items = c.close_up.ensures.items.long in
    let range : c.args.first + c.args.n ≤ length c.self.inside.ends.items = rw (ap (λ v. v.items) c.self.view_is) c.requires.range in
    c.truncate.ensures.items
    ∙ moved-all lowered_place c.args.first c.args.n (length c.self.inside.ends.items) _ c.self.inside.ends.items c.close_up.new.ends.items refl range (ap (λ k. k - c.args.n) (a ∙ b)) c.close_up.ensures.items ∙ ap (λ v. ends_without v.items c.args.first c.args.n) c.self.view_is

pub invariant_of-self : goal.invariant_of-self
invariant_of-self c =
    let range : c.args.first + c.args.n ≤ length c.self.inside.ends.items = rw (ap (λ v. v.items) c.self.view_is) c.requires.range in
    record {
      bounded = rw c.truncate.ensures.items (bounded-dropped c.args.first c.args.n (length c.self.inside.ends.items) (c.len-len.result - c.args.n) (c.args.first / 64) c.self.inside.ends.items c.close_up.new.ends.items c.self.inside.latest.items c.find_latest.new.latest.items refl range c.close_up.ensures.items
          (subst (λ (ends : List End). AreFound ends (c.args.first / 64) c.self.inside.latest.items c.find_latest.new.latest.items) c.truncate.ensures.items c.find_latest.ensures.items) c.self.invariant.bounded);
      held = omega (arith, c.self.invariant.held, c.close_up.ensures.items.long, c.close_up.ensures.spare, c.truncate.ensures.room, c.find_latest.ensures.capacity);
    }
