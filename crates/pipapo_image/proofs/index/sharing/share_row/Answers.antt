use Rattle.std.proofs.Common.{◌≡◌, ◌&&◌, sym, ◌∙◌, ap, arith, length}
use Rattle.bit_rows.specs.Row.{at}
use Rattle.bit_rows.proofs.Rows.{at-both, length-both}
use Rattle.lookup_table.specs.Table.{block_at}
use Rattle.set_model.specs.declared.block.Block.{Block}
use Rattle.set_model.specs.Blocks.{blocks}
use Rattle.set_tables.specs.Sharing.{shares_some}
use Rattle.set_tables.proofs.MatchLaws.{matched-by}
use Rattle.pipapo_image.proofs.index.sharing.share_row.Goals as goal

pub returns-clause-bits : goal.returns-clause-bits
returns-clause-bits c = λ rules s.
    let d : Block = record { base = 0; free_bits = 0 } in
    let row = c.args.row.now.bits in
    let sum = c.share_blocks.new.sum.bits in
    let same : length row ≡ length sum = c.requires.length ∙ sym c.share_blocks.ensures.length in
    let long : length c.and_from.new.self.bits ≡ length row = ap length c.and_from.ensures.bits ∙ length-both row sum same in
    matched-by (shares_some (blocks c.args.part.low c.args.part.high c.args.table.now.bits)) rules row c.and_from.new.self.bits d (c.requires.length ∙ sym s.one_each) long
    (λ i h.
    ap (λ xs. at xs i) c.and_from.ensures.bits ∙ at-both row sum i same (omega (arith, s.one_each, c.requires.length))
    ∙ ap (λ t. at row i && t) (c.share_blocks.ensures.shared rules s i (omega (arith, s.one_each)) ∙ ap (λ z. shares_some z (block_at rules i)) c.new-split.ensures.split))

pub returns-clause-length : goal.returns-clause-length
returns-clause-length c =
    let same : length c.args.row.now.bits ≡ length c.share_blocks.new.sum.bits = c.requires.length ∙ sym c.share_blocks.ensures.length in
    ap length c.and_from.ensures.bits ∙ length-both c.args.row.now.bits c.share_blocks.new.sum.bits same
