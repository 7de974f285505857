use Rattle.std.proofs.Common.{subst, sym}
use Rattle.input_files.specs.declared.fault.FileFault.{FileFault}
use Rattle.input_files.specs.Inputs.{second, IsFileCause}
use Rattle.input_files.specs.Seen.{ruleset_names, seen}
use Rattle.input_files.proofs.Reading.{second-cause, second-noted}
use Rattle.input_files.proofs.files.second_script_of.Goals as goal

pub returns-clause-cause : goal.returns-clause-cause
returns-clause-cause g c = λ sets.
    subst (λ (f : FileFault). IsFileCause (seen (ruleset_names c.args.rulesets) (g.F.Shelf.told c.args.shelf.now)) sets (g.F.Shelf.asked c.args.shelf.now) (record { name = c.args.name.now; form = second }) (g.F.Shelf.asked c.script_of.new.shelf) (g.F.Shelf.faults c.args.shelf.now) (g.F.Shelf.faults c.script_of.new.shelf) f) (sym c.of_second.ensures)
    (second-cause (seen (ruleset_names c.args.rulesets) (g.F.Shelf.told c.args.shelf.now)) sets (g.F.Shelf.asked c.args.shelf.now) (g.F.Shelf.asked c.script_of.new.shelf) (g.F.Shelf.faults c.args.shelf.now) (g.F.Shelf.faults c.script_of.new.shelf) c.args.name.now c.in-Err.fault (c.in-Err.ensures.cause sets))

pub returns-clause-noted : goal.returns-clause-noted
returns-clause-noted g c = λ sets. second-noted (seen (ruleset_names c.args.rulesets) (g.F.Shelf.told c.args.shelf.now)) sets c.args.name.now c.in-Err.fault c.of_second.result _ _ c.of_second.ensures (c.in-Err.ensures.noted sets)
