use Rattle.std.proofs.Common.{◌≡◌, refl, ◌∙◌, ap, ◌+◌, ◌-◌, ◌≤◌, length}
use Rattle.set_tables.specs.Rows.{lowered, spans_without}
use Rattle.mapping_table.proofs.MoveLaws.{moved-all}
use Rattle.mapping_table.proofs.map.MapTable.drop_rules.Goals as goal

pub returns-clause-items : goal.returns-clause-items
returns-clause-items c =
    let a : c.len-len.result ≡ length c.close_up.new.spans.items = c.len-len.ensures in
    let b : length c.close_up.new.spans.items ≡ length c.self.inside.spans.items = c.close_up.ensures.items.long in
    let range : c.args.first + c.args.n ≤ length c.self.inside.spans.items = rw (ap (λ v. v.items) c.self.view_is) c.requires.range in
    c.truncate.ensures.items
    ∙ moved-all (lowered c.args.next_n) c.args.first c.args.n (length c.self.inside.spans.items) _ c.self.inside.spans.items c.close_up.new.spans.items refl range (ap (λ k. k - c.args.n) (a ∙ b)) c.close_up.ensures.items ∙ ap (λ v. spans_without v.items c.args.first c.args.n c.args.next_n) c.self.view_is
