use Rattle.std.proofs.Common.{subst, Err, Ok}
use Rattle.std.proofs.lemmas.Result.{on_ok_weaker}
use Rattle.set_model.specs.Control.{mode_of}
use Rattle.set_space.specs.Open.{IsChange}
use Rattle.key_answer.specs.Tracing.{adding, HasMade}
use Rattle.key_answer.proofs.TraceLaws.{made-traces, refused-traces}
use Rattle.key_answer.proofs.trail.add.Goals as goal

pub returns-in-Ok : goal.returns-in-Ok
returns-in-Ok c =
    let a = c.args.addition in
    on_ok_weaker c.note.result
    (λ noted. made-traces (mode_of c.args.keep_going) a.line a.set (adding a.creates) a.element.now a.now c.args.control.now c.try_add.new.control c.args.events.now c.try_add.ensures.others c.args.failed.now c.in-Ok.made c.args.lines.now c.note.new.self c.requires.quiet c.in-Ok.ensures.change noted)
    c.note.ensures

pub returns-in-Err-Refused : goal.returns-in-Err-Refused
returns-in-Err-Refused c =
    let a = c.args.addition in
    let change = subst (λ e. IsChange (HasMade (adding a.creates) a.element.now a.now (Err e)) c.args.control.now.work a.set c.try_add.new.control.work) c.in-Err-Refused.field-0-is c.in-Err-Refused.ensures.change in
    on_ok_weaker c.refuse.result
    (λ does. refused-traces (mode_of c.args.keep_going) a.line a.set (adding a.creates) a.element.now a.now c.args.control.now c.try_add.new.control c.args.events.now c.try_add.ensures.others c.args.failed.now c.refuse.new.failed c.in-Err-Refused.why c.refuse.new.events c.args.lines.now c.requires.quiet change does)
    c.refuse.ensures
