use Rattle.std.proofs.Common.{◌≡◌, ◌*◌, ◌/◌, ◌≤◌, ◌∙◌, sym, ap, length, arith}
use Rattle.bit_rows.specs.Words.{first_bits}
use Rattle.bit_rows.specs.Ranked.{rank}
use Rattle.bit_rows.proofs.Bits.{length-bits}
use Rattle.bit_rows.proofs.Ranks.{rank-of_word, rank-at, rank-few}
use Rattle.bit_rows.proofs.ranked.RankedBits.rank.Goals as goal

pub ones_in-requires-clause-within : goal.ones_in-requires-clause-within
ones_in-requires-clause-within c =
    let all = sym (length-bits c.self.inside.words.items c.self.inside.len) ∙ ap length c.self.view_is in
    omega (arith, all, c.requires, c.self.invariant.within, ap length c.as_slice.ensures.value)

pub index-requires : goal.index-requires
index-requires c =
    let all = sym (length-bits c.self.inside.words.items c.self.inside.len) ∙ ap length c.self.view_is in
    omega (arith, all, c.requires, c.self.invariant.within, c.in_default)

pub overflow_add-result : goal.overflow_add-result
overflow_add-result c =
    let words = c.self.inside.words.items in
    let len = c.self.inside.len in
    let i = c.args.i in
    let all = sym (length-bits words len) ∙ ap length c.self.view_is in
    let l : i ≤ len = omega (arith, all, c.requires) in
    let page = c.rank_of_page.ensures ∙ ap (λ b. rank b (512 * (i / 512))) (sym c.self.view_is) in
    let before = rank-of_word words c.as_slice.result.now len i c.rank_of_page.result c.ones_in.result c.as_slice.ensures.value l page c.ones_in.ensures.counted in
    let here = rank-at words len i c.index.result.now l (omega (arith, l, c.self.invariant.within, c.in_default)) c.index.ensures in
    let few = rank-few (first_bits words len) i in
    omega (arith, before, here, few, c.ones_below.ensures, c.ranges.i.fits)

pub returns-in-0 : goal.returns-in-0
returns-in-0 c =
    let words = c.self.inside.words.items in
    let len = c.self.inside.len in
    let i = c.args.i in
    let all = sym (length-bits words len) ∙ ap length c.self.view_is in
    let l : i ≤ len = omega (arith, all, c.requires) in
    let page = c.rank_of_page.ensures ∙ ap (λ b. rank b (512 * (i / 512))) (sym c.self.view_is) in
    let before = rank-of_word words c.as_slice.result.now len i c.rank_of_page.result c.ones_in.result c.as_slice.ensures.value l page c.ones_in.ensures.counted in
    let whole : 64 * (i / 64) ≡ i = omega (arith, c.in-0) in
    before ∙ ap (rank (first_bits words len)) whole ∙ ap (λ b. rank b i) c.self.view_is

pub returns-in_default : goal.returns-in_default
returns-in_default c =
    let words = c.self.inside.words.items in
    let len = c.self.inside.len in
    let i = c.args.i in
    let all = sym (length-bits words len) ∙ ap length c.self.view_is in
    let l : i ≤ len = omega (arith, all, c.requires) in
    let page = c.rank_of_page.ensures ∙ ap (λ b. rank b (512 * (i / 512))) (sym c.self.view_is) in
    let before = rank-of_word words c.as_slice.result.now len i c.rank_of_page.result c.ones_in.result c.as_slice.ensures.value l page c.ones_in.ensures.counted in
    let here = rank-at words len i c.index.result.now l (omega (arith, l, c.self.invariant.within, c.in_default)) c.index.ensures in
    omega (arith, before, here, c.ones_below.ensures, ap (λ b. rank b i) c.self.view_is)
