use Rattle.std.proofs.Common.{◌<◌, ◌≤◌, All, sym, subst}
use Rattle.set_model.specs.Runnable.{IsFitting}
use Rattle.reader_speed.proofs.ReadyLaws.{are_ready}
use Rattle.reader_speed.proofs.course.Course.section.Goals as goal

pub returns-clause-ready : goal.returns-clause-ready
returns-clause-ready g c =
    let ran = c.in_ok-run_section.ensures in let old = c.requires.ready in let packets = c.args.self.now.packets in
    are_ready c.run_section.new.control c.run_section.new.readers.items packets (subst (λ n. 0 < n) (sym ran.ready.0) old.some) (subst (λ n. n ≤ 16) (sym ran.ready.0) old.few) ran.ready.1
    (subst (λ s. All (IsFitting s) packets) (sym ran.steps.goes_on.schema_is) old.fitting)
