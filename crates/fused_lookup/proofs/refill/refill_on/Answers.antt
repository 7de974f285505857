use Rattle.std.proofs.Common.{◌≡◌, sym, ◌∙◌, arith, length, Bool}
use Rattle.set_model.specs.declared.block.Block.{Block}
use Rattle.set_model.specs.Blocks.{holds_value}
use Rattle.set_tables.specs.Rows.{matched}
use Rattle.fused_lookup.proofs.MatchLaws.{length-left, word-left, has-rules}
use Rattle.fused_lookup.proofs.refill.refill_on.Goals as goal

pub refill_word-requires-clause-rules : goal.refill_word-requires-clause-rules
refill_word-requires-clause-rules c = has-rules (length c.args.spans.now.items) c.args.i c.match_word-word.result (λ k h p. c.match_word-word.ensures.past k h (omega (arith, c.requires.rules)))

pub returns-clause-filled : goal.returns-clause-filled
returns-clause-filled c = λ blocks row s room is before.
    let test : Block → Bool = λ rule. holds_value rule c.args.value in
    let n = s.one_each in
    let long : length (matched test blocks row) ≡ length c.args.spans.now.items = length-left test blocks row (omega arith) ∙ n ∙ sym c.requires.rules in
    c.refill_word.ensures.filled (matched test blocks row) long
    (word-left test blocks row c.args.i c.args.table.now.rules c.args.left c.match_word-word.result n room is (c.match_word-word.ensures.held blocks s) c.match_word-word.ensures.past) before
