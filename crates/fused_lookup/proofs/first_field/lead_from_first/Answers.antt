use Rattle.std.proofs.Common.{ℕ, ◌≤◌, ◌*◌, subst, arith, true, None}
use Rattle.std.specs.Prelude.{replicate}
use Rattle.set_model.specs.Blocks.{holds_value}
use Rattle.fused_lookup.specs.Led.{Leads}
use Rattle.fused_lookup.proofs.AllLaws.{all-lead-nowhere}
use Rattle.fused_lookup.proofs.first_field.lead_from_first.Goals as goal

pub returns-then-is_empty : goal.returns-then-is_empty
returns-then-is_empty c =
    let past : c.args.table.now.rules ≤ 64 * (64 * c.pages.p) = omega (arith, c.div_ceil-p-end.ensures) in
    subst (λ (v : ℕ). Leads c.args.table.now c.args.ends.now.items (λ rule. holds_value rule v) (replicate c.args.table.now.rules true) c.args.now None) c.new-probe.ensures.value
    (all-lead-nowhere c.args.table.now c.args.ends.now.items (λ rule. holds_value rule c.new-probe.result.value) (64 * c.pages.p) c.args.now c.requires.rules past c.pages.invariant)

pub returns : goal.returns
returns c =
    let past : c.args.table.now.rules ≤ 64 * (64 * (64 * c.tops.q)) = omega (arith, c.div_ceil-q-end.ensures) in
    subst (λ (v : ℕ). Leads c.args.table.now c.args.ends.now.items (λ rule. holds_value rule v) (replicate c.args.table.now.rules true) c.args.now None) c.new-probe.ensures.value
    (all-lead-nowhere c.args.table.now c.args.ends.now.items (λ rule. holds_value rule c.new-probe.result.value) (64 * (64 * c.tops.q)) c.args.now c.requires.rules past c.tops.invariant)
