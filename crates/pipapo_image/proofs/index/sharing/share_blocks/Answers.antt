use Rattle.std.proofs.Common.{◌≡◌, ◌&&◌, sym, ◌∙◌, ap, subst, arith, true, false, length}
use Rattle.std.specs.Prelude.{All}
use Rattle.std.proofs.lemmas.List.{length-replicate, get_or-replicate}
use Rattle.std.proofs.lemmas.List.Elements.{All-tail}
use Rattle.bit_rows.specs.Row.{at}
use Rattle.bit_rows.proofs.Rows.{at-either, length-either}
use Rattle.lookup_table.specs.Table.{block_at}
use Rattle.set_model.specs.declared.block.Block.{Block}
use Rattle.set_model.specs.Blocks.{IsWithin}
use Rattle.field_groups.specs.Groups.{share_value}
use Rattle.pipapo_image.proofs.SharingRows.{one-more}
use Rattle.pipapo_image.proofs.index.sharing.share_blocks.Goals as goal

pub split_blocks-preserved : goal.split_blocks-preserved
split_blocks-preserved c =
    let inv = c.split_blocks.invariant in
    let sum = c.split_blocks.sum.bits in
    let one = c.share_into.new.row.bits in
    let long : length one ≡ c.args.table.now.rules = c.share_into.ensures.length ∙ ap length c.fill-in-split_blocks.ensures.bits ∙ length-replicate c.args.table.now.rules true in
    let same : length sum ≡ length one = inv.len ∙ sym long in
    let len : length c.or_from.new.self.bits ≡ c.args.table.now.rules = ap length c.or_from.ensures.bits ∙ length-either sum one same ∙ inv.len in
    let P : Block → Type 0 = λ b. IsWithin c.args.table.now.bits b in
    record {
      shared = λ rules s r h.
          one-more (block_at rules r) c.in-Some.block c.split_blocks.block-iterator c.next.new.self _ (at sum r) (at one r) (at c.or_from.new.self.bits r) c.in-Some.ensures.steps
          (ap (λ xs. at xs r) c.or_from.ensures.bits ∙ at-either sum one r same (omega (arith, inv.len)))
          (c.share_into.ensures.shared rules s r h
          ∙ ap (λ xs. at xs r && share_value (block_at rules r) c.in-Some.block) c.fill-in-split_blocks.ensures.bits
          ∙ ap (λ t. t && share_value (block_at rules r) c.in-Some.block) (get_or-replicate c.args.table.now.rules r true false h))
          (inv.shared rules s r h);
      len = len;
      within = All-tail P c.in-Some.block c.next.new.self (subst (λ z. All P z) c.in-Some.ensures.steps inv.within);
      one_room = record { room = omega (arith, c.share_into.ensures.length, c.share_into.ensures.spare, c.fill-in-split_blocks.ensures.room, inv.one_room.room) };
      rest_room = record { room = omega (arith, c.share_into.ensures.room, inv.rest_room.room) };
      sum_room = record { room = omega (arith, len, c.or_from.ensures.spare, inv.len, inv.sum_room.room) };
    }
