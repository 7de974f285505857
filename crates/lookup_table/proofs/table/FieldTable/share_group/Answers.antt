use Rattle.std.proofs.Common.{rules, ◌≡◌, ◌∙◌, sym, ap, ◌+◌, ◌*◌, ◌%◌, ◌<◌, ◌^◌, length, bit_and, arith}
use Rattle.bit_rows.specs.Row.{Row}
use Rattle.bit_rows.proofs.Rows.{length-both}
use Rattle.lookup_table.specs.Table.{bucket_at}
use Rattle.lookup_table.proofs.RowsLaws.{All-bucket, bucket-found}
use Rattle.lookup_table.proofs.MarkLaws.{code-first, code-count, run-within}
use Rattle.lookup_table.proofs.ShareLaws.{met-free, met-one, met-some}
use Rattle.field_groups.proofs.RunLaws.{run-some}
use Rattle.lookup_table.proofs.table.FieldTable.share_group.Goals as goal

pub join_into-requires-clause-place : goal.join_into-requires-clause-place
join_into-requires-clause-place c =
    let small : c.args.g < 2 ^ 32 = omega arith in
    omega (
      arith,
      code-first c.args.self.now.width c.args.self.now.bits c.args.g _ _ c.args.block c.args.self.now.shaped.groups.eight small c.group_mask-base.ensures.base c.group_mask-base.ensures.mask,
      code-count c.args.self.now.width c.args.self.now.bits c.args.g _ c.args.block c.args.self.now.shaped.groups.eight c.group_mask-base.ensures.mask,
      run-within c.args.self.now.width c.args.self.now.bits c.args.g c.args.block c.args.self.now.buckets.rows c.args.self.now.shaped.count c.requires.group,
      run-some c.args.self.now.width c.args.self.now.bits c.args.g c.args.block,
    )

pub and_into-requires-clause-length : goal.and_into-requires-clause-length
and_into-requires-clause-length c =
    let small : c.args.g < 2 ^ 32 = omega arith in
    let first = c.args.g * 2 ^ c.args.self.now.width % 2 ^ 64 + bit_and c.group_mask-base.result.0 c.group_mask-base.result.1 in
    let within : first < length c.args.self.now.buckets.rows = omega (
      arith,
      code-first c.args.self.now.width c.args.self.now.bits c.args.g _ _ c.args.block c.args.self.now.shaped.groups.eight small c.group_mask-base.ensures.base c.group_mask-base.ensures.mask,
      run-within c.args.self.now.width c.args.self.now.bits c.args.g c.args.block c.args.self.now.buckets.rows c.args.self.now.shaped.count c.requires.group,
      run-some c.args.self.now.width c.args.self.now.bits c.args.g c.args.block,
    ) in
    let there = All-bucket (λ (x : Row). length x.bits ≡ c.args.self.now.rules) c.args.self.now.buckets.rows first c.args.self.now.shaped.rows within in
    c.requires.length ∙ sym there

pub returns-then-count-eq1-clause-length : goal.returns-then-count-eq1-clause-length
returns-then-count-eq1-clause-length c =
    let small : c.args.g < 2 ^ 32 = omega arith in
    let first = c.args.g * 2 ^ c.args.self.now.width % 2 ^ 64 + bit_and c.group_mask-base.result.0 c.group_mask-base.result.1 in
    let within : first < length c.args.self.now.buckets.rows = omega (
      arith,
      code-first c.args.self.now.width c.args.self.now.bits c.args.g _ _ c.args.block c.args.self.now.shaped.groups.eight small c.group_mask-base.ensures.base c.group_mask-base.ensures.mask,
      run-within c.args.self.now.width c.args.self.now.bits c.args.g c.args.block c.args.self.now.buckets.rows c.args.self.now.shaped.count c.requires.group,
      run-some c.args.self.now.width c.args.self.now.bits c.args.g c.args.block,
    ) in
    let there = All-bucket (λ (x : Row). length x.bits ≡ c.args.self.now.rules) c.args.self.now.buckets.rows first c.args.self.now.shaped.rows within in
    ap length c.and_into.ensures.bits ∙ length-both c.args.row.now.bits (bucket_at c.args.self.now.buckets.rows first).bits (c.requires.length ∙ sym there) ∙ c.requires.length

pub returns-then-count-eq1-clause-met : goal.returns-then-count-eq1-clause-met
returns-then-count-eq1-clause-met c =
    let small : c.args.g < 2 ^ 32 = omega arith in
    let first = c.args.g * 2 ^ c.args.self.now.width % 2 ^ 64 + bit_and c.group_mask-base.result.0 c.group_mask-base.result.1 in
    let within : first < length c.args.self.now.buckets.rows = omega (
      arith,
      code-first c.args.self.now.width c.args.self.now.bits c.args.g _ _ c.args.block c.args.self.now.shaped.groups.eight small c.group_mask-base.ensures.base c.group_mask-base.ensures.mask,
      run-within c.args.self.now.width c.args.self.now.bits c.args.g c.args.block c.args.self.now.buckets.rows c.args.self.now.shaped.count c.requires.group,
      run-some c.args.self.now.width c.args.self.now.bits c.args.g c.args.block,
    ) in
    let there = All-bucket (λ (x : Row). length x.bits ≡ c.args.self.now.rules) c.args.self.now.buckets.rows first c.args.self.now.shaped.rows within in
    (met-one c.args.self.now.width c.args.self.now.bits c.args.self.now.rules c.args.g _ _ c.args.block c.args.self.now.buckets.rows c.args.row.now c.and_into.new.row (bucket_at c.args.self.now.buckets.rows first) c.requires.group
    (code-first c.args.self.now.width c.args.self.now.bits c.args.g _ _ c.args.block c.args.self.now.shaped.groups.eight small c.group_mask-base.ensures.base c.group_mask-base.ensures.mask)
    (code-count c.args.self.now.width c.args.self.now.bits c.args.g _ c.args.block c.args.self.now.shaped.groups.eight c.group_mask-base.ensures.mask)
    c.if-count-eq1.true (bucket-found c.args.self.now.buckets.rows first within) c.requires.length there c.and_into.ensures.bits).at

pub returns-then-mask-ne0-clause-length : goal.returns-then-mask-ne0-clause-length
returns-then-mask-ne0-clause-length c =
    ap length c.and_from.ensures.bits ∙ length-both c.args.row.now.bits c.join_into.new.row.bits (c.requires.length ∙ sym c.join_into.ensures.joined.long) ∙ c.requires.length

pub returns-then-mask-ne0-clause-met : goal.returns-then-mask-ne0-clause-met
returns-then-mask-ne0-clause-met c =
    let small : c.args.g < 2 ^ 32 = omega arith in
    (met-some c.args.self.now.width c.args.self.now.bits c.args.self.now.rules c.args.g _ _ c.args.block c.args.self.now.buckets.rows c.args.row.now c.and_from.new.self c.join_into.new.row c.requires.group
    (code-first c.args.self.now.width c.args.self.now.bits c.args.g _ _ c.args.block c.args.self.now.shaped.groups.eight small c.group_mask-base.ensures.base c.group_mask-base.ensures.mask)
    (code-count c.args.self.now.width c.args.self.now.bits c.args.g _ c.args.block c.args.self.now.shaped.groups.eight c.group_mask-base.ensures.mask)
    (search (rules, c.join_into.ensures.joined)) c.requires.length c.and_from.ensures.bits).at

pub returns-else-mask-ne0-clause-met : goal.returns-else-mask-ne0-clause-met
returns-else-mask-ne0-clause-met c =
    (met-free c.args.self.now.width c.args.self.now.bits c.args.self.now.rules c.args.g _ c.args.block c.args.self.now.buckets.rows c.args.row.now c.group_mask-base.ensures.mask (omega arith)).at
