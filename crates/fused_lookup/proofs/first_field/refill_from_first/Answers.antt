use Rattle.std.proofs.Common.{ℕ, ◌≤◌, ◌*◌, refl, ◌∙◌, subst, arith, length, true}
use Rattle.std.specs.Prelude.{replicate}
use Rattle.set_model.specs.Blocks.{holds_value}
use Rattle.fused_lookup.specs.Filled.{Refills}
use Rattle.fused_lookup.proofs.AllLaws.{all-refilled}
use Rattle.fused_lookup.proofs.FillLaws.{inside-more}
use Rattle.fused_lookup.proofs.WindowLaws.{clear-window}
use Rattle.fused_lookup.proofs.first_field.refill_from_first.Goals as goal

pub pages-init : goal.pages-init
pages-init c = record {
  filled = λ blocks s before. before;
  window = clear-window c.args.next.now.bits c.none-reached.result c.none-reached.ensures c.requires.clear;
  len = refl;
  spare = refl;
}

pub refill_page-reached-requires-clause-inside : goal.refill_page-reached-requires-clause-inside
refill_page-reached-requires-clause-inside c = inside-more c.args.spans.now.items (length c.args.next.now.bits) (length c.pages.next.bits) c.pages.invariant.len c.requires.inside

pub refill_page-reached-requires-clause-window : goal.refill_page-reached-requires-clause-window
refill_page-reached-requires-clause-window c = c.pages.invariant.window

pub pages-preserved : goal.pages-preserved
pages-preserved c = record {
  filled = λ blocks s before. c.refill_page-reached.ensures.filled blocks s (c.pages.invariant.filled blocks s before);
  window = c.refill_page-reached.ensures.window;
  len = c.refill_page-reached.ensures.len ∙ c.pages.invariant.len;
  spare = c.refill_page-reached.ensures.spare ∙ c.pages.invariant.spare;
}

pub returns-then-is_empty-clause-refilled : goal.returns-then-is_empty-clause-refilled
returns-then-is_empty-clause-refilled c =
    let past : c.args.table.now.rules ≤ 64 * (64 * c.pages.p) = omega (arith, c.div_ceil-p-end.ensures) in
    subst (λ (v : ℕ). Refills c.args.table.now c.args.spans.now.items (λ rule. holds_value rule v) (replicate c.args.table.now.rules true) c.pages.next.bits) c.new-probe.ensures.value
    (all-refilled c.args.table.now c.args.spans.now.items (λ rule. holds_value rule c.new-probe.result.value) (64 * c.pages.p) c.args.next.now.bits c.pages.next.bits c.requires.rules past c.requires.clear c.pages.invariant.filled)

pub returns-then-is_empty-clause-window : goal.returns-then-is_empty-clause-window
returns-then-is_empty-clause-window c = c.pages.invariant.window

pub returns-then-is_empty-clause-next_len : goal.returns-then-is_empty-clause-next_len
returns-then-is_empty-clause-next_len c = c.pages.invariant.len

pub returns-then-is_empty-clause-next_spare : goal.returns-then-is_empty-clause-next_spare
returns-then-is_empty-clause-next_spare c = c.pages.invariant.spare

pub tops-init : goal.tops-init
tops-init c = record {
  filled = λ blocks s before. before;
  window = clear-window c.args.next.now.bits c.none-reached.result c.none-reached.ensures c.requires.clear;
  len = refl;
  spare = refl;
}

pub tops-preserved : goal.tops-preserved
tops-preserved c =
    record {
      filled = λ blocks s before. c.refill_pages-reached.ensures.filled blocks s (c.tops.invariant.filled blocks s before);
      window = c.refill_pages-reached.ensures.window;
      len = c.refill_pages-reached.ensures.len ∙ c.tops.invariant.len;
      spare = c.refill_pages-reached.ensures.spare ∙ c.tops.invariant.spare;
    }

pub returns-clause-refilled : goal.returns-clause-refilled
returns-clause-refilled c =
    let past : c.args.table.now.rules ≤ 64 * (64 * (64 * c.tops.q)) = omega (arith, c.div_ceil-q-end.ensures) in
    subst (λ (v : ℕ). Refills c.args.table.now c.args.spans.now.items (λ rule. holds_value rule v) (replicate c.args.table.now.rules true) c.tops.next.bits) c.new-probe.ensures.value
    (all-refilled c.args.table.now c.args.spans.now.items (λ rule. holds_value rule c.new-probe.result.value) (64 * (64 * c.tops.q)) c.args.next.now.bits c.tops.next.bits c.requires.rules past c.requires.clear c.tops.invariant.filled)
