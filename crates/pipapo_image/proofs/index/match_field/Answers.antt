use Rattle.std.proofs.Common.{◌∙◌, sym, arith}
use Rattle.set_model.specs.declared.block.Block.{Block}
use Rattle.set_model.specs.Blocks.{holds_value}
use Rattle.set_tables.proofs.MatchLaws.{matched-by}
use Rattle.pipapo_image.proofs.index.match_field.Goals as goal

pub returns-clause-bits : goal.returns-clause-bits
returns-clause-bits c = λ blocks s.
    let d : Block = record { base = 0; free_bits = 0 } in
    matched-by (λ b. holds_value b c.args.value) blocks c.args.row.now.bits c.match_into.new.row.bits d (c.requires.length ∙ sym s.one_each) c.match_into.ensures.length
    (λ i h. c.match_into.ensures.held blocks s i (omega (arith, s.one_each)))
