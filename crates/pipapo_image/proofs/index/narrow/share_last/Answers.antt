use Rattle.std.proofs.Common.{◌≡◌, sym, ◌∙◌, ap, ◌-◌, ◌<◌, arith, length}
use Rattle.std.proofs.lemmas.Option.{get_or_from_slice_get}
use Rattle.set_model.specs.SetState.{field_rules}
use Rattle.set_model.specs.Blocks.{blocks}
use Rattle.set_tables.specs.Rows.{matched}
use Rattle.set_tables.specs.Sharing.{shares_some, share_tests}
use Rattle.pipapo_image.proofs.Items.{field-stands}
use Rattle.pipapo_image.proofs.SharingRows.{field-test}
use Rattle.pipapo_image.proofs.NarrowLaws.{last-matched}
use Rattle.pipapo_image.proofs.index.narrow.share_last.Goals as goal

pub returns-clause-row : goal.returns-clause-row
returns-clause-row c = λ kinds es s.
    let f = length c.args.fields.now - 1 in
    let inside : f < length c.args.fields.now = omega (arith, c.requires.some) in
    let t = c.index-fields-f.result in
    let part = c.at.result.now in
    let test = shares_some (blocks part.low part.high t.bits) in
    let st = field-stands kinds es c.args.fields.now f t s inside c.index-fields-f.is in
    let same : test ≡ share_tests kinds c.args.parts.now f =
    ap (λ p. shares_some (blocks p.low p.high t.bits)) (sym (get_or_from_slice_get c.args.parts.now f part part c.at.ensures))
    ∙ field-test kinds es c.args.fields.now c.args.parts.now f t part s c.requires.parts.one_each inside c.index-fields-f.is in
    c.share_row.ensures.bits (field_rules kinds f es) st
    ∙ ap (matched test (field_rules kinds f es)) c.fill.ensures.bits
    ∙ last-matched kinds es (share_tests kinds c.args.parts.now) test f t.rules (ap (λ n. n - 1) s.one_each) same (sym st.one_each)
