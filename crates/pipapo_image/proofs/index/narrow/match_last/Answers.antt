use Rattle.std.proofs.Common.{refl, sym, ◌∙◌, ap, ◌-◌, ◌<◌, arith, length}
use Rattle.std.specs.Prelude.{slice_index}
use Rattle.set_model.specs.SetState.{field_rules}
use Rattle.set_model.specs.Blocks.{holds_value}
use Rattle.set_tables.specs.Rows.{matched}
use Rattle.set_tables.specs.Search.{key_tests}
use Rattle.pipapo_image.proofs.Items.{field-stands}
use Rattle.pipapo_image.proofs.NarrowLaws.{last-matched}
use Rattle.pipapo_image.proofs.index.narrow.match_last.Goals as goal

pub returns-clause-row : goal.returns-clause-row
returns-clause-row c = λ kinds es s.
    let f = length c.args.fields.now - 1 in
    let inside : f < length c.args.fields.now = omega (arith, c.requires.some) in
    let st = field-stands kinds es c.args.fields.now f c.index-fields-f.result s inside c.index-fields-f.is in
    c.match_field.ensures.bits (field_rules kinds f es) st
    ∙ ap (matched (λ b. holds_value b (slice_index c.args.key.now f)) (field_rules kinds f es)) c.fill.ensures.bits
    ∙ last-matched kinds es (key_tests c.args.key.now) (key_tests c.args.key.now f) f c.index-fields-f.result.rules (ap (λ n. n - 1) s.one_each) refl (sym st.one_each)
