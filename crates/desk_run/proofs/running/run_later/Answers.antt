use Rattle.std.proofs.Common.{rules, ◌<◌, List, length, subst, arith}
use Rattle.packet_pool.proofs.Lists.{get_at}
use Rattle.set_model.specs.Control.{Generation}
use Rattle.control_desk.specs.Work.{IsRun}
use Rattle.script_laws.proofs.RunLaws.{ok-as}
use Rattle.desk_run.proofs.Opening.{all_opened, all_ready, first_base}
use Rattle.desk_run.proofs.running.run_later.Goals as goal

pub run_clerks-requires-clause-one_desk : goal.run_clerks-requires-clause-one_desk
run_clerks-requires-clause-one_desk g c κs within = let desk = c.in_ok-clerks.ensures in
    (desk.0, c.args.control.schema, c.args.control.committed, all_opened desk.0 c.args.control.schema c.args.control.committed _ _ c.in_ok-clerks.clerks.items desk.1)

pub run_clerks-requires-clause-ready : goal.run_clerks-requires-clause-ready
run_clerks-requires-clause-ready g c κs within = let desk = c.in_ok-clerks.ensures in let count = c.len-count.ensures in let few = c.requires.few in
    all_ready desk.0 c.args.control.schema c.args.control.committed _ _ c.in_ok-clerks.clerks.items desk.1 c.args.sections.now (omega (arith, count, few)) c.requires.steps c.requires.closed c.longest-each.ensures

pub returns : goal.returns
returns g c = let desk = c.in_ok-clerks.ensures in let clerks = c.in_ok-clerks.clerks.items in
    let some : 0 < length clerks = search rules in let first = get_at clerks 0 some in
    ok-as c.run_clerks.result (λ r ran.
    subst (λ (z : List Generation). IsRun c.args.sections.now c.args.keep_going z r.0 r.1) (first_base desk.0 c.args.control.schema c.args.control.committed _ _ clerks desk.1 first.0 first.1) (ran first.0 first.1)) c.run_clerks.ensures
