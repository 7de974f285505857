use Rattle.std.proofs.Common.{◌≡◌, ◌-◌, ◌<◌, ◌≤◌, sym, ◌∙◌, ap, subst, arith, length, get_or}
use Rattle.set_tables.specs.Rows.{led_to}
use Rattle.set_tables.specs.Core.{row_of}
use Rattle.set_tables.specs.Sharing.{share_tests}
use Rattle.set_tables.specs.Tables.{last_ends}
use Rattle.set_tables.proofs.SharingLaws.{led-shares}
use Rattle.pipapo_image.specs.Index.Standing.{AreFieldsOf, AreMapsOf}
use Rattle.pipapo_image.proofs.Items.{a-table}
use Rattle.pipapo_image.proofs.index.Index.find_sharing.Goals as goal

pub led-requires : goal.led-requires
led-requires c =
    let some : 0 < length c.args.self.now.fields = omega (arith, c.requires.shaped.walk.one_fewer) in
    let d = a-table c.args.self.now.fields some in
    let m : length c.args.self.now.fields - 1 ≡ length c.args.self.now.maps = omega (arith, c.requires.shaped.walk.one_fewer) in
    c.share_walk.ensures.length d
    ∙ ap (λ z. (get_or z (length c.as_slice-2.result.now) d).rules) c.as_slice.ensures
    ∙ ap (λ z. (get_or c.args.self.now.fields (length z) d).rules) c.as_slice-2.ensures
    ∙ ap (λ n. (get_or c.args.self.now.fields n d).rules) (sym m)
    ∙ sym (c.requires.shaped.one_end_each d)

pub returns : goal.returns
returns c = λ kinds es is fit all.
    let last : length c.args.self.now.maps ≡ length kinds - 1 = omega (arith, is.maps.one_fewer) in
    let some : 1 ≤ length kinds = omega (arith, is.maps.one_fewer) in
    let fields = subst (λ z. AreFieldsOf kinds es z) (sym c.as_slice.ensures) is.fields in
    let maps = subst (λ z. AreMapsOf kinds es z) (sym c.as_slice-2.ensures) is.maps in
    let row : c.share_walk.new.row.bits ≡ row_of kinds es (share_tests kinds c.args.parts.now) (length kinds - 1) =
    c.share_walk.ensures.row kinds es fields maps
    ∙ ap (λ z. row_of kinds es (share_tests kinds z) (length c.as_slice-2.result.now)) c.as_slice-3.ensures
    ∙ ap (λ z. row_of kinds es (share_tests kinds c.args.parts.now) (length z)) c.as_slice-2.ensures
    ∙ ap (λ n. row_of kinds es (share_tests kinds c.args.parts.now) n) last in
    c.led.ensures
    ∙ ap (λ z. led_to z c.share_walk.new.row.bits c.args.now) is.ends
    ∙ ap (λ z. led_to (last_ends kinds es) z c.args.now) row
    ∙ led-shares kinds es c.args.parts.now c.args.now some fit all
