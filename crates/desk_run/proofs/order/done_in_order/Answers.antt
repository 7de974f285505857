use Rattle.std.proofs.Common.{map, subst}
use Rattle.control_desk.specs.Woven.{IsWoven}
use Rattle.desk_run.proofs.Taking.{one_entry_less}
use Rattle.desk_run.proofs.order.done_in_order.Goals as goal

pub entries-preserved : goal.entries-preserved
entries-preserved c =
    let left = c.pop.new.self.items in let popped = c.in-Some.ensures.items in
    let took = c.in_ok-steps.ensures left (subst (IsWoven c.entries.sections) popped c.entries.invariant.woven) in record {
      woven = took.1;
      whole = one_entry_less c.entries.entries.items left c.in-Some.entry c.in_ok-steps.steps c.entries.done.items c.push.new.self.items (map (λ e. e.steps) c.args.log) popped took.0 c.in_ok-push.ensures.items c.entries.invariant.whole;
    }
