use Rattle.std.proofs.Common.{◌≡◌, ◌∙◌, ap, ◌*◌, ◌^◌, ◌<◌, arith}
use Rattle.field_groups.specs.Groups.{group}
use Rattle.field_groups.proofs.GroupLaws.{group-below}
use Rattle.lookup_table.proofs.RuleLaws.{place-within}
use Rattle.lookup_table.proofs.MarkLaws.{code-place}
use Rattle.lookup_table.proofs.table.FieldTable.place_in.Goals as goal

pub returns-clause-within : goal.returns-clause-within
returns-clause-within c =
    let t = c.args.self.now in
    let small : c.args.g < 2 ^ 32 = omega arith in
    let same : c.group_value-v.result ≡ group t.width t.bits c.args.g c.args.value =
    c.group_value-v.ensures ∙ ap (λ w. group w c.args.bits c.args.g c.args.value) c.requires.width ∙ ap (λ b. group t.width b c.args.g c.args.value) c.requires.bits in
    let below : c.group_value-v.result < 2 ^ t.width = rw same (group-below t.width t.bits c.args.g c.args.value) in
    omega (
      arith,
      ap (λ w. c.args.g * 2 ^ w) c.requires.width,
      code-place c.args.width c.args.g c.group_value-v.result (omega (arith, c.requires.width, t.shaped.groups.eight)) small,
      place-within t.width t.bits t.rules c.args.g c.group_value-v.result t.buckets.rows t.shaped c.requires.group below,
    )
