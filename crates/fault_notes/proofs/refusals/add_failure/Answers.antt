use Rattle.std.proofs.Common.{◌≡◌, ◌++◌, sym, subst, Bool, true}
use Rattle.std.proofs.lemmas.Result.{on_ok_weaker}
use Rattle.fault_notes.specs.Refusals.{failure_text}
use Rattle.fault_notes.proofs.RefusalLaws.{failure-added}
use Rattle.fault_notes.proofs.refusals.add_failure.Goals as goal

pub returns : goal.returns
returns c =
    let is : c.args.failed ≡ true = search c.if-not-failed.false in
    on_ok_weaker c.end_line.result
    (λ ended. subst (λ (b : Bool). c.end_line.new.self.bytes.items ≡ c.args.note.now.bytes.items ++ failure_text c.args.name.now b) (sym is)
    (failure-added c.args.name.now c.args.note.now.bytes.items c.file.new.self.bytes.items c.say.new.self.bytes.items c.end_line.new.self.bytes.items c.in_ok-file.ensures c.in_ok-say.ensures ended))
    c.end_line.ensures
