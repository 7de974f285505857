use Rattle.std.proofs.Common.{◌≡◌, ◌+◌, ◌-◌, ◌*◌, ◌∙◌, sym, ap, Some, length, arith}
use Rattle.std.proofs.lemmas.Option.{slice_get-get_or}
use Rattle.bit_rows.specs.Words.{first_bits}
use Rattle.bit_rows.specs.Ranked.{rank}
use Rattle.bit_rows.proofs.Bits.{length-bits}
use Rattle.bit_rows.proofs.ranked.RankedBits.rank_of_page.Goals as goal

pub index-requires : goal.index-requires
index-requires c =
    let all = sym (length-bits c.self.inside.words.items c.self.inside.len) ∙ ap length c.self.view_is in
    omega (arith, all, c.requires, c.self.invariant.pages, c.in_default)

pub returns-in_default : goal.returns-in_default
returns-in_default c =
    let all = sym (length-bits c.self.inside.words.items c.self.inside.len) ∙ ap length c.self.view_is in
    let p = c.args.page - 1 in
    let rank_is = c.index.result.now in
    let stands = slice_get-get_or c.self.inside.ranks.items p rank_is (omega (arith, all, c.requires, c.self.invariant.pages, c.in_default)) ∙ ap Some (sym c.index.ensures) in
    let end : 512 * p + 512 ≡ 512 * c.args.page = omega (arith, c.in_default) in
    c.self.invariant.each p rank_is stands ∙ ap (rank (first_bits c.self.inside.words.items c.self.inside.len)) end ∙ ap (λ b. rank b (512 * c.args.page)) c.self.view_is
