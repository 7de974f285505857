use Rattle.std.proofs.lemmas.Result.{on_ok_weaker}
use Rattle.set_model.specs.Control.{mode_of}
use Rattle.packet_pool.proofs.RunLaws.{refusal_goes}
use Rattle.packet_pool.proofs.steps.try_change.Goals as goal

pub returns-in-Some-clause-ok : goal.returns-in-Some-clause-ok
returns-in-Some-clause-ok c =
    let changed = rw c.in-Some.is at c.in_ok-change.ensures.change in
    on_ok_weaker c.refuse.result
    (λ does. refusal_goes (mode_of c.args.keep_going) c.args.line c.args.set c.args.verb c.args.element.now c.args.now c.args.control.now c.change.new.control c.args.events.now c.in_ok-change.ensures.others c.in-Some.why c.args.failed.now c.refuse.new.failed c.refuse.new.events changed does)
    c.refuse.ensures
