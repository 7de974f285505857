use Rattle.command_words.specs.WordForms.{plain}
use Rattle.input_files.specs.Inputs.{inputs, names_of}
use Rattle.input_files.specs.Seen.{ruleset_names}
use Rattle.top_call.proofs.FormLaws.{skips-told}
use Rattle.top_call.proofs.command.read_work.Goals as goal

pub returns-in-Ok-clause-skips : goal.returns-in-Ok-clause-skips
returns-in-Ok-clause-skips g c =
    let all = c.in-Ok.ensures.all in
    skips-told (g.F.Shelf.told c.args.shelf.now) (ruleset_names c.args.rulesets) (g.F.Shelf.asked c.work_of.new.shelf) (names_of (inputs (plain c.args.command))) c.work_of.new.skipped.lines.bytes.items c.work_of.new.skipped.leaves_sets_out _ _ _ all.0.asked all.1 c.in-Ok.ensures.silent c.tell_lines.ensures.quiet c.tell_lines.ensures.none c.tell_lines.ensures.some
