use Rattle.std.proofs.Common.{◌≡◌, sym, ◌∙◌, ◌+◌, ◌-◌, ◌*◌, ◌^◌, ◌≤◌, true, arith, length, Bool}
use Rattle.set_model.specs.declared.block.Block.{Block}
use Rattle.set_model.specs.Blocks.{holds_value}
use Rattle.set_tables.specs.Rows.{matched}
use Rattle.fused_lookup.specs.Words.{small_row}
use Rattle.fused_lookup.proofs.FillLaws.{filled-none, filled-all}
use Rattle.fused_lookup.proofs.MatchLaws.{length-left, word-left, has-rules}
use Rattle.fused_lookup.proofs.SmallLaws.{length-small, low-left, high-left, zero-clear}
use Rattle.fused_lookup.proofs.small.refill_small.Goals as goal

pub fill_small-low-requires-clause-rules : goal.fill_small-low-requires-clause-rules
fill_small-low-requires-clause-rules c = has-rules (length c.args.spans.now.items) 0 c.match_word.result (λ k h p. c.match_word.ensures.past k h (omega (arith, c.requires.rules)))

pub fill_small-requires-clause-rules : goal.fill_small-requires-clause-rules
fill_small-requires-clause-rules c = has-rules (length c.args.spans.now.items) 1 c.match_word-2.result (λ k h p. c.match_word-2.ensures.past k h (omega (arith, c.requires.rules)))

pub returns : goal.returns
returns c = λ blocks s.
    let test : Block → Bool = λ rule. holds_value rule c.args.value in
    let row = small_row c.args.left in
    let n = s.one_each in
    let wide = length-small c.args.left in
    let room : length blocks ≤ length row = omega (arith, c.requires.few) in
    let long : length (matched test blocks row) ≡ length c.args.spans.now.items = length-left test blocks row room ∙ n ∙ sym c.requires.rules in
    filled-all c.args.spans.now.items (matched test blocks row) (64 * (1 + 1)) (small_row c.fill_small.result) long (omega (arith, c.requires.few, c.requires.rules))
    (c.fill_small.ensures (matched test blocks row) long
    (word-left test blocks row 1 c.args.table.now.rules c.high_word.result c.match_word-2.result n (omega (arith, wide, c.requires.few)) (high-left c.args.table.now.rules c.args.left c.high_word.result c.high_word.ensures) (c.match_word-2.ensures.held blocks s) c.match_word-2.ensures.past)
    (c.fill_small-low.ensures (matched test blocks row) long
    (word-left test blocks row 0 c.args.table.now.rules c.low_word.result c.match_word.result n (omega (arith, wide, c.requires.few)) (low-left c.args.table.now.rules c.args.left c.low_word.result c.low_word.ensures) (c.match_word.ensures.held blocks s) c.match_word.ensures.past)
    (filled-none c.args.spans.now.items (matched test blocks row) (small_row 0) zero-clear)))
