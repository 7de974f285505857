use Rattle.std.proofs.Common.{◌≡◌, sym, ◌∙◌, ◌+◌, ◌-◌, ◌*◌, ◌^◌, ◌≤◌, true, arith, length, Bool}
use Rattle.std.proofs.lemmas.List.{get_or_past}
use Rattle.set_model.specs.declared.block.Block.{Block}
use Rattle.set_model.specs.Blocks.{holds_value}
use Rattle.set_tables.specs.Rows.{matched}
use Rattle.fused_lookup.specs.Words.{small_row}
use Rattle.fused_lookup.proofs.LedLaws.{nowhere-none, led-all}
use Rattle.fused_lookup.proofs.MatchLaws.{length-left}
use Rattle.fused_lookup.proofs.SmallLaws.{length-small, low-left, high-left}
use Rattle.fused_lookup.proofs.small.lead_small.Goals as goal

pub returns : goal.returns
returns c = λ blocks s.
    let test : Block → Bool = λ rule. holds_value rule c.args.value in
    let row = small_row c.args.left in
    let n = s.one_each in
    let wide = length-small c.args.left in
    let room : length blocks ≤ length row = omega (arith, c.requires.few) in
    let count = length-left test blocks row room in
    let long : length (matched test blocks row) ≡ length c.args.ends.now.items = count ∙ n ∙ sym c.requires.rules in
    led-all c.args.ends.now.items (matched test blocks row) c.args.now (64 * (1 + 1)) c.led_on.result long
    (λ k past. get_or_past (matched test blocks row) k _ (omega (arith, c.requires.few)))
    (c.led_on.ensures blocks row s (omega (arith, wide, c.requires.few)) (high-left c.args.table.now.rules c.args.left c.high_word.result c.high_word.ensures)
    (c.led_on-found.ensures blocks row s (omega (arith, wide, c.requires.few)) (low-left c.args.table.now.rules c.args.left c.low_word.result c.low_word.ensures)
    (nowhere-none c.args.ends.now.items (matched test blocks row) c.args.now)))
