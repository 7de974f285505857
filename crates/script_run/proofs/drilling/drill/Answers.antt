use Rattle.std.proofs.Common.{◌≡◌, refl, ◌∙◌, ap, arith, rules}
use Rattle.set_model.specs.declared.script.Script.{Script}
use Rattle.drill_gen.specs.Drill.{drill_script, drill_keys}
use Rattle.script_run.proofs.DrillLaws.{drill-section, drill-packets, drill-count, drill-line}
use Rattle.script_run.proofs.drilling.drill.Goals as goal

pub tell_drill-requires-clause-room : goal.tell_drill-requires-clause-room
tell_drill-requires-clause-room g c κs within =
    let keys : c.in_ok-script.keys ≡ drill_keys c.args.seed c.args.count = search rules in
    let size = drill-count c.args.seed c.args.count (drill-packets c.args.seed c.args.count keys c.at-2.ensures) in
    let few = c.ranges.count.fits in
    omega (arith, size, few)

pub returns-clause-text : goal.returns-clause-text
returns-clause-text g c =
    let script : c.in_ok-script.script ≡ drill_script c.args.seed c.args.count = search rules in
    let keys : c.in_ok-script.keys ≡ drill_keys c.args.seed c.args.count = search rules in
    let begins = c.in_ok-telling.ensures in let told = c.in_ok-tell_drill.ensures.told in let new = c.tell_drill.new.telling in
    drill-line c.args.seed c.args.count c.in_ok-telling.telling.control.schema c.at.result.now c.at-2.result.now new.control told.0 new.control.work.base
    c.in_ok-telling.telling.output.text.items new.output.text.items
    (begins.schema_is ∙ ap (λ (s : Script). s.schema) script) (drill-section c.args.seed c.args.count script c.at.ensures) (drill-packets c.args.seed c.args.count keys c.at-2.ensures)
    told.1 refl begins.text told.2
