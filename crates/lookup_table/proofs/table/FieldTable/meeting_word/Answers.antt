use Rattle.std.proofs.Common.{◌≡◌, ◌∙◌, sym, ◌+◌, ◌*◌, ◌<◌, ◌^◌, arith}
use Rattle.std.proofs.lemmas.Bool.{lt-ltb}
use Rattle.bit_rows.proofs.Bits.{bit-ones}
use Rattle.field_groups.proofs.ShareLaws.{meets-free}
use Rattle.lookup_table.specs.Table.{block_at}
use Rattle.lookup_table.proofs.MarkLaws.{code-first, code-count}
use Rattle.lookup_table.proofs.ShareLaws.{mask-free, word-met}
use Rattle.lookup_table.proofs.table.FieldTable.meeting_word.Goals as goal

pub returns-then-mask-eq0 : goal.returns-then-mask-eq0
returns-then-mask-eq0 c = λ blocks stands k h r.
    let t = c.args.self.now in
    bit-ones 64 k ∙ lt-ltb k 64 h ∙ sym (meets-free t.width t.bits c.args.g (block_at blocks (64 * c.args.i + k)) c.args.block
    (mask-free t.width t.bits c.args.g _ c.args.block c.group_mask-base.ensures.mask c.if-mask-eq0.true))

pub returns : goal.returns
returns c = λ blocks stands k h r.
    let small : c.args.g < 2 ^ 32 = omega arith in
    let t = c.args.self.now in
    c.joined.ensures k
    ∙ word-met t.width t.bits t.rules c.args.g c.args.i k _ _ c.args.block t.buckets.rows c.args.words.now blocks stands c.requires.words t.shaped.count c.requires.group
    (code-first t.width t.bits c.args.g _ _ c.args.block t.shaped.groups.eight small c.group_mask-base.ensures.base c.group_mask-base.ensures.mask)
    (code-count t.width t.bits c.args.g _ c.args.block t.shaped.groups.eight c.group_mask-base.ensures.mask) h r
