use Rattle.std.proofs.Common.{rules, ◌≡◌, ◌&&◌, ◌||◌, ◌∙◌, ap, subst, ◌+◌, ◌*◌, List}
use Rattle.std.specs.Prelude.{All}
use Rattle.std.proofs.lemmas.List.Elements.{All-tail}
use Rattle.bit_rows.specs.Row.{bit}
use Rattle.bit_rows.proofs.Bits.{bit-or, bit-zero}
use Rattle.lookup_table.specs.Table.{block_at}
use Rattle.set_model.specs.declared.block.Block.{Block}
use Rattle.set_model.specs.Blocks.{IsWithin}
use Rattle.set_tables.specs.Sharing.{shares_some}
use Rattle.pipapo_image.proofs.SharingRows.{word-first, word-more}
use Rattle.pipapo_image.proofs.index.sharing.share_word_blocks.Goals as goal

pub split_blocks-init : goal.split_blocks-init
split_blocks-init c =
    let all : c.into_iter-block-iterator.result ≡ c.args.split = search rules in
    record {
      shared = λ rules s k h r.
          let rule = block_at rules (64 * c.args.i + k) in
          word-first (bit 0 k) (bit c.args.word k && shares_some c.into_iter-block-iterator.result rule) (bit-zero k) ∙ ap (λ (z : List Block). bit c.args.word k && shares_some z rule) all;
      fewer = λ k h e. bit-zero k;
      within = search rules;
    }

pub split_blocks-preserved : goal.split_blocks-preserved
split_blocks-preserved c =
    let inv = c.split_blocks.invariant in
    let old = c.split_blocks.shared in
    let P : Block → Type 0 = λ b. IsWithin c.args.table.now.bits b in
    record {
      shared = λ rules s k h r.
          word-more (block_at rules (64 * c.args.i + k)) c.in-Some.block c.split_blocks.block-iterator c.next.new.self _ (bit old k) (bit c.share_word-shared.result k) _ (bit c.args.word k) c.in-Some.ensures.steps
          (bit-or old c.share_word-shared.result k) (c.share_word-shared.ensures.shared rules s k h r) (inv.shared rules s k h r);
      fewer = λ k h e. bit-or old c.share_word-shared.result k ∙ ap (λ t. t || bit c.share_word-shared.result k) (inv.fewer k h e) ∙ c.share_word-shared.ensures.fewer k h e;
      within = All-tail P c.in-Some.block c.next.new.self (subst (λ z. All P z) c.in-Some.ensures.steps inv.within);
    }
