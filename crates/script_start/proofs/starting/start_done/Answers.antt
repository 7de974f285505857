use Rattle.std.proofs.Common.{List, sym, subst}
use Rattle.gen_publish.specs.Publish.{Steering, ReaderView}
use Rattle.script_start.specs.Scripted.{HasReaders}
use Rattle.script_start.proofs.Done.{of_control, has_readers}
use Rattle.script_start.proofs.starting.start_done.Goals as goal

pub all_met-requires : goal.all_met-requires
all_met-requires c =
    of_control c.do_script.new.control c.in_ok-control.control.of _ _ 0 c.in_ok-control.seated.items c.in_ok-do_script.ensures.start.0 c.in_ok-control.ensures.readers.1

pub returns-clause-readers : goal.returns-clause-readers
returns-clause-readers c =
    let new = c.in_ok-control.ensures in
    subst (λ (k : Steering). HasReaders c.args.readers k c.in_ok-readers.readers.items) (sym c.in_ok-readers.ensures.same)
    (subst (λ (ps : List ReaderView). HasReaders c.args.readers c.do_script.new.control ps) (sym c.in_ok-readers.ensures.met)
    (has_readers c.args.readers c.in_ok-control.control c.do_script.new.control c.args.script.schema _ c.in_ok-control.seated.items new.control.1 new.readers.0 new.control.0 new.readers.1 c.in_ok-do_script.ensures.start))
