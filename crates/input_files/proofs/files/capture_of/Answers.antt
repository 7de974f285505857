use Rattle.std.proofs.Common.{refl}
use Rattle.input_files.specs.Inputs.{capture}
use Rattle.input_files.specs.Seen.{ruleset_names, seen}
use Rattle.input_files.proofs.Telling.{capture-note}
use Rattle.fault_notes.proofs.ToldLaws.{may_tell}
use Rattle.input_files.proofs.files.capture_of.Goals as goal

pub returns-in-Err-clause-cause : goal.returns-in-Err-clause-cause
returns-in-Err-clause-cause g c = λ sets. c.in-Err.ensures.cause sets (record { name = c.args.name.now; form = capture }) refl

pub returns-in-Err-Bad-clause-noted : goal.returns-in-Err-Bad-clause-noted
returns-in-Err-Bad-clause-noted g c = λ sets. capture-note (seen (ruleset_names c.args.rulesets) (g.F.Shelf.told c.args.shelf.now)) c.args.name.now sets c.in-Err-Bad.byte c.in-Err-Bad.reason _ _ _ c.in-Ok.ensures.silent (may_tell c.tell_capture.ensures)
