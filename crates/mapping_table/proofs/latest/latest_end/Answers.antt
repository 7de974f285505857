use Rattle.std.proofs.Common.{◌≡◌, ◌∙◌, ap, ℕ, nat_cmp, ◌+◌, ◌-◌, ◌*◌, ◌≤◌, ◌⊎◌, inl, inr, None, length, arith}
use Rattle.std.specs.Prelude.{max}
use Rattle.std.specs.Ordering.{ord_max}
use Rattle.std.proofs.lemmas.Grind.{common_steps}
use Rattle.std.proofs.lemmas.Bool.{cases_lt}
use Rattle.std.proofs.lemmas.Option.{get_or_from_slice_get}
use Rattle.set_tables.specs.declared.End.{End}
use Rattle.mapping_table.specs.Latest.{expiry_moment}
use Rattle.mapping_table.proofs.LatestLaws.{latest-next, latest-whole}
use Rattle.mapping_table.proofs.latest.latest_end.Goals as goal

max-is : (a b : ℕ) → ord_max nat_cmp a b ≡ max a b
max-is a b = grind (arith, common_steps)

pub ends-preserved : goal.ends-preserved
ends-preserved c =
    let d : End = record { place = 0; expiry = None } in
    let ends = c.args.ends.now.items in
    let w = c.args.w in
    let n = c.ends.i - 64 * w in
    let place : c.ends.i + 1 - 64 * w ≡ n + 1 = omega arith in
    let here = ap expiry_moment (get_or_from_slice_get ends c.ends.i c.at.result.now d c.at.ensures) in
    let next = latest-next ends w c.ends.i n d (omega arith) (omega arith) (omega arith) (omega arith) in
    rw place (c.max-latest.ensures ∙ max-is c.ends.latest c.expiry_moment.result ∙ omega (arith, next, here, c.ends.invariant, c.expiry_moment.ensures))

pub returns : goal.returns
returns c =
    let n = c.ends.i - 64 * c.args.w in
    c.ends.invariant ∙ latest-whole c.args.ends.now.items c.args.w n (omega arith) (elim (cases_lt n 64) as (λ _. 64 ≤ n ⊎ length c.args.ends.now.items - 64 * c.args.w ≤ n) [ inl l ↦ inr (omega arith) | inr l ↦ inl l ])
