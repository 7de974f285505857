use Rattle.std.proofs.Common.{◌≡◌, ◌∙◌, ap, ◌-◌, ◌*◌, ◌%◌, length, take, drop, arith}
use Rattle.mapping_table.specs.Spared.{word_of}
use Rattle.mapping_table.proofs.WordLaws.{page-word, last-word}
use Rattle.mapping_table.proofs.roomy.Roomy.word.Goals as goal

pub returns-then-page-len : goal.returns-then-page-len
returns-then-page-len g c =
    let w = c.args.w in
    c.word_from.ensures ∙ ap (λ items. take 64 (drop (64 * w % 512) items)) (c.as_slice.ensures ∙ ap (λ page. page.items) c.index-items.ensures)
    ∙ page-word c.self.inside.whole.items c.self.inside.rest.items w c.index-items.result.now c.self.invariant.whole (omega arith) ∙ ap (λ v. word_of w v.items) c.self.view_is

pub returns-else-page-len : goal.returns-else-page-len
returns-else-page-len g c =
    let w = c.args.w in
    let from : 64 * w - 512 * c.len-else-page-len.result ≡ 64 * w - 512 * length c.self.inside.whole.items = omega arith in
    c.word_from-else-page-len.ensures ∙ ap (λ items. take 64 (drop (64 * w - 512 * c.len-else-page-len.result) items)) c.as_slice-else-page-len.ensures.value
    ∙ ap (λ n. take 64 (drop n c.self.inside.rest.items)) from
    ∙ last-word c.self.inside.whole.items c.self.inside.rest.items w c.self.invariant.whole (omega arith) ∙ ap (λ v. word_of w v.items) c.self.view_is
