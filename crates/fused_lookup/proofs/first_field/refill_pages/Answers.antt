use Rattle.std.proofs.Common.{◌≡◌, ◌+◌, ◌*◌, ◌≤◌, ◌<◌, sym, ◌∙◌, subst, arith, length, Bool, true}
use Rattle.std.specs.Prelude.{replicate}
use Rattle.std.proofs.lemmas.List.{length-replicate}
use Rattle.set_model.specs.declared.block.Block.{Block}
use Rattle.set_model.specs.Blocks.{holds_value}
use Rattle.set_tables.specs.Rows.{matched}
use Rattle.fused_lookup.specs.Words.{IsNextBit}
use Rattle.fused_lookup.specs.Filled.{IsFilled}
use Rattle.fused_lookup.proofs.FillLaws.{filled-skip, inside-more}
use Rattle.fused_lookup.proofs.MatchLaws.{length-left}
use Rattle.fused_lookup.proofs.SieveLaws.{none-matched}
use Rattle.fused_lookup.proofs.CandidateLaws.{no-page-between}
use Rattle.fused_lookup.proofs.first_field.refill_pages.Goals as goal

pub refill_page-window-requires-clause-page : goal.refill_page-window-requires-clause-page
refill_page-window-requires-clause-page c =
    let next : IsNextBit c.candidate_pages-candidates.result c.pages.from c.in-Some.k = c.in-Some.ensures in
    c.candidate_pages-candidates.ensures.within c.in-Some.k next.within next.set

pub refill_page-window-requires-clause-inside : goal.refill_page-window-requires-clause-inside
refill_page-window-requires-clause-inside c = inside-more c.args.spans.now.items (length c.args.next.now.bits) (length c.pages.next.bits) c.pages.invariant.len c.requires.inside

pub pages-preserved : goal.pages-preserved
pages-preserved c = record {
  low = omega (arith, c.in-Some.ensures.within);
  filled = λ blocks s before.
      let next : IsNextBit c.candidate_pages-candidates.result c.pages.from c.in-Some.k = c.in-Some.ensures in
      let low : c.pages.from ≤ c.in-Some.k = next.from_on in
      let high : c.in-Some.k < 64 = next.within in
      let test : Block → Bool = λ rule. holds_value rule c.args.probe.value in
      let ones = length-replicate c.args.table.now.rules true in
      let n = s.one_each in
      let m = matched test blocks (replicate c.args.table.now.rules true) in
      let long : length m ≡ length c.args.spans.now.items = length-left test blocks (replicate c.args.table.now.rules true) (omega arith) ∙ n ∙ sym c.requires.rules in
      let up : 64 * c.args.q + c.in-Some.k + 1 ≡ 64 * c.args.q + (c.in-Some.k + 1) = omega arith in
      let skipped = filled-skip c.args.spans.now.items m (64 * (64 * (64 * c.args.q + c.pages.from))) (64 * (64 * (64 * c.args.q + c.in-Some.k))) c.pages.next.bits long (omega arith)
      (none-matched c.args.table.now c.args.probe.value blocks _ _ s (no-page-between c.args.table.now c.args.probe.value c.args.q c.candidate_pages-candidates.result c.pages.from c.in-Some.k c.candidate_pages-candidates.ensures.none (omega arith) next.least))
      (c.pages.invariant.filled blocks s before) in
      subst (λ z. IsFilled c.args.spans.now.items m (64 * (64 * z)) c.refill_page-window.new.next.bits) up (c.refill_page-window.ensures.filled blocks s skipped);
  window = c.refill_page-window.ensures.window;
  len = c.refill_page-window.ensures.len ∙ c.pages.invariant.len;
  spare = c.refill_page-window.ensures.spare ∙ c.pages.invariant.spare;
}

pub returns-clause-filled : goal.returns-clause-filled
returns-clause-filled c = λ blocks s before.
    let test : Block → Bool = λ rule. holds_value rule c.args.probe.value in
    let low : c.pages.from ≤ 64 = c.pages.invariant.low in
    let ones = length-replicate c.args.table.now.rules true in
    let n = s.one_each in
    let m = matched test blocks (replicate c.args.table.now.rules true) in
    let long : length m ≡ length c.args.spans.now.items = length-left test blocks (replicate c.args.table.now.rules true) (omega arith) ∙ n ∙ sym c.requires.rules in
    let up : 64 * c.args.q + 64 ≡ 64 * (c.args.q + 1) = omega arith in
    subst (λ z. IsFilled c.args.spans.now.items m (64 * (64 * z)) c.pages.next.bits) up
    (filled-skip c.args.spans.now.items m (64 * (64 * (64 * c.args.q + c.pages.from))) (64 * (64 * (64 * c.args.q + 64))) c.pages.next.bits long (omega arith)
    (none-matched c.args.table.now c.args.probe.value blocks _ _ s (no-page-between c.args.table.now c.args.probe.value c.args.q c.candidate_pages-candidates.result c.pages.from 64 c.candidate_pages-candidates.ensures.none (omega arith) c.in_default.ensures))
    (c.pages.invariant.filled blocks s before))
