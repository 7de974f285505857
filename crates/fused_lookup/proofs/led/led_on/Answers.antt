use Rattle.std.proofs.Common.{◌≡◌, ◌*◌, sym, ◌∙◌, subst, arith, length, Bool}
use Rattle.set_model.specs.declared.block.Block.{Block}
use Rattle.set_model.specs.Blocks.{holds_value}
use Rattle.set_tables.specs.Rows.{matched}
use Rattle.fused_lookup.specs.Led.{IsLed}
use Rattle.fused_lookup.proofs.MatchLaws.{length-left, word-left, has-rules}
use Rattle.fused_lookup.proofs.led.led_on.Goals as goal

pub first_live-requires : goal.first_live-requires
first_live-requires c = has-rules (length c.args.ends.now.items) c.args.i c.match_word.result (λ k h p. c.match_word.ensures.past k h (omega (arith, c.requires.rules)))

pub returns-in-None : goal.returns-in-None
returns-in-None c = λ blocks row s room is before.
    let test : Block → Bool = λ rule. holds_value rule c.args.value in
    let n = s.one_each in
    let long : length (matched test blocks row) ≡ length c.args.ends.now.items = length-left test blocks row (omega arith) ∙ n ∙ sym c.requires.rules in
    c.first_live.ensures (matched test blocks row) long
    (word-left test blocks row c.args.i c.args.table.now.rules c.args.left c.match_word.result n room is (c.match_word.ensures.held blocks s) c.match_word.ensures.past)
    (subst (λ found. IsLed c.args.ends.now.items (matched test blocks row) c.args.now (64 * c.args.i) found) c.in-None.is before)
