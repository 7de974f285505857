use Rattle.std.proofs.Common.{take, Some, ◌≡◌, ◌<◌, true, length, rules, arith}
use Rattle.std.proofs.lemmas.List.Elements.{All-take}
use Rattle.set_model.specs.declared.script.Step.{Step}
use Rattle.set_model.specs.Runnable.{opens}
use Rattle.control_desk.proofs.Doing.{same_number, same_committed, none_committed}
use Rattle.control_desk.proofs.transaction.try_changes.Goals as goal

pub do_step-requires-clause-number : goal.do_step-requires-clause-number
do_step-requires-clause-number c =
    let i = c.loop-step.step-index in let changes = c.args.changes.now in
    let n = same_number c.args.keep_going (take i changes) c.args.control.now c.loop-step.control c.loop-step.failed c.loop-step.refused (All-take (λ (s : Step). opens (Some s) ≡ true) i changes c.requires.changes) c.loop-step.invariant in
    let room = c.requires.number in omega (arith, n, room)

pub returns-in_err-do_step-clause-committed : goal.returns-in_err-do_step-clause-committed
returns-in_err-do_step-clause-committed c =
    let i = c.loop-step.step-index in let changes = c.args.changes.now in let within : i < length changes = search rules in
    let opening : opens (Some c.step-item.result) ≡ true = search rules in
    none_committed c.args.keep_going (take i changes) c.args.control.now c.loop-step.control c.loop-step.failed c.loop-step.refused c.step-item.result c.do_step.new.control
    (All-take (λ (s : Step). opens (Some s) ≡ true) i changes c.requires.changes) opening c.loop-step.invariant c.in_err-do_step.ensures.err

pub returns-clause-number : goal.returns-clause-number
returns-clause-number c =
    same_number c.args.keep_going (take c.loop-step.step-index c.args.changes.now) c.args.control.now c.loop-step.control c.loop-step.failed c.loop-step.refused
    (All-take (λ (s : Step). opens (Some s) ≡ true) c.loop-step.step-index c.args.changes.now c.requires.changes) c.loop-step.invariant

pub returns-clause-committed : goal.returns-clause-committed
returns-clause-committed c =
    same_committed c.args.keep_going (take c.loop-step.step-index c.args.changes.now) c.args.control.now c.loop-step.control c.loop-step.failed c.loop-step.refused
    (All-take (λ (s : Step). opens (Some s) ≡ true) c.loop-step.step-index c.args.changes.now c.requires.changes) c.loop-step.invariant
