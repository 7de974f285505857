use Rattle.std.proofs.Common.{◌∙◌, ◌-◌, ap, sym, List, length, slice_get}
use Rattle.control_desk.specs.declared.entry.Entry.{Entry}
use Rattle.desk_run.proofs.Telling.{failure_of_log}
use Rattle.desk_run.proofs.whole.any_failure.Goals as goal

pub returns-in-Some : goal.returns-in-Some
returns-in-Some c =
    c.has_failed.ensures
    ∙ failure_of_log c.args.told.now c.args.log.now c.in-Some.entry.now (ap (λ (z : List Entry). slice_get z (length z - 1)) (sym c.as_slice.ensures) ∙ sym c.in-Some.ensures.value)
