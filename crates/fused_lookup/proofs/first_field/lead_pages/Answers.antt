use Rattle.std.proofs.Common.{◌≡◌, ◌+◌, ◌*◌, ◌≤◌, ◌<◌, sym, ◌∙◌, subst, arith, length, Bool, true}
use Rattle.std.specs.Prelude.{replicate}
use Rattle.std.proofs.lemmas.List.{length-replicate}
use Rattle.set_model.specs.declared.block.Block.{Block}
use Rattle.set_model.specs.Blocks.{holds_value}
use Rattle.set_tables.specs.Rows.{matched}
use Rattle.fused_lookup.specs.Words.{IsNextBit}
use Rattle.fused_lookup.specs.Led.{LeadsNowhere}
use Rattle.fused_lookup.proofs.LedLaws.{nowhere-skip}
use Rattle.fused_lookup.proofs.MatchLaws.{length-left}
use Rattle.fused_lookup.proofs.SieveLaws.{none-matched}
use Rattle.fused_lookup.proofs.CandidateLaws.{no-page-between}
use Rattle.fused_lookup.proofs.first_field.lead_pages.Goals as goal

pub lead_page-requires-clause-page : goal.lead_page-requires-clause-page
lead_page-requires-clause-page c =
    let next : IsNextBit c.candidate_pages-candidates.result c.pages.from c.in-Some.k = c.in-Some.ensures in
    c.candidate_pages-candidates.ensures.within c.in-Some.k next.within next.set

pub returns-in-Some-lead_page : goal.returns-in-Some-lead_page
returns-in-Some-lead_page c = λ blocks s before.
    let next : IsNextBit c.candidate_pages-candidates.result c.pages.from c.in-Some.k = c.in-Some.ensures in
    let test : Block → Bool = λ rule. holds_value rule c.args.probe.value in
    let ones = length-replicate c.args.table.now.rules true in
    let n = s.one_each in
    let m = matched test blocks (replicate c.args.table.now.rules true) in
    let long : length m ≡ length c.args.ends.now.items = length-left test blocks (replicate c.args.table.now.rules true) (omega arith) ∙ n ∙ sym c.requires.rules in
    let high : c.in-Some.k < 64 = next.within in
    c.in-Some-lead_page.ensures blocks s
    (nowhere-skip c.args.ends.now.items m c.args.now (64 * (64 * (64 * c.args.q + c.pages.from))) (64 * (64 * (64 * c.args.q + c.in-Some.k))) long
    (none-matched c.args.table.now c.args.probe.value blocks _ _ s (no-page-between c.args.table.now c.args.probe.value c.args.q c.candidate_pages-candidates.result c.pages.from c.in-Some.k c.candidate_pages-candidates.ensures.none (omega arith) next.least))
    (c.pages.invariant.nowhere blocks s before))

pub pages-preserved : goal.pages-preserved
pages-preserved c = record {
  low = omega (arith, c.in-Some.ensures.within);
  nowhere = λ blocks s before.
      let next : IsNextBit c.candidate_pages-candidates.result c.pages.from c.in-Some.k = c.in-Some.ensures in
      let test : Block → Bool = λ rule. holds_value rule c.args.probe.value in
      let ones = length-replicate c.args.table.now.rules true in
      let n = s.one_each in
      let m = matched test blocks (replicate c.args.table.now.rules true) in
      let long : length m ≡ length c.args.ends.now.items = length-left test blocks (replicate c.args.table.now.rules true) (omega arith) ∙ n ∙ sym c.requires.rules in
      let high : c.in-Some.k < 64 = next.within in
      let skipped = nowhere-skip c.args.ends.now.items m c.args.now (64 * (64 * (64 * c.args.q + c.pages.from))) (64 * (64 * (64 * c.args.q + c.in-Some.k))) long
      (none-matched c.args.table.now c.args.probe.value blocks _ _ s (no-page-between c.args.table.now c.args.probe.value c.args.q c.candidate_pages-candidates.result c.pages.from c.in-Some.k c.candidate_pages-candidates.ensures.none (omega arith) next.least))
      (c.pages.invariant.nowhere blocks s before) in
      let up : 64 * c.args.q + c.in-Some.k + 1 ≡ 64 * c.args.q + (c.in-Some.k + 1) = omega arith in
      subst (λ z. LeadsNowhere c.args.ends.now.items m c.args.now (64 * (64 * z))) up (c.in_default-lead_page.ensures blocks s skipped);
}

pub returns : goal.returns
returns c = λ blocks s before.
    let test : Block → Bool = λ rule. holds_value rule c.args.probe.value in
    let low : c.pages.from ≤ 64 = c.pages.invariant.low in
    let ones = length-replicate c.args.table.now.rules true in
    let n = s.one_each in
    let m = matched test blocks (replicate c.args.table.now.rules true) in
    let long : length m ≡ length c.args.ends.now.items = length-left test blocks (replicate c.args.table.now.rules true) (omega arith) ∙ n ∙ sym c.requires.rules in
    let up : 64 * c.args.q + 64 ≡ 64 * (c.args.q + 1) = omega arith in
    subst (λ z. LeadsNowhere c.args.ends.now.items m c.args.now (64 * (64 * z))) up
    (nowhere-skip c.args.ends.now.items m c.args.now (64 * (64 * (64 * c.args.q + c.pages.from))) (64 * (64 * (64 * c.args.q + 64))) long
    (none-matched c.args.table.now c.args.probe.value blocks _ _ s (no-page-between c.args.table.now c.args.probe.value c.args.q c.candidate_pages-candidates.result c.pages.from 64 c.candidate_pages-candidates.ensures.none (omega arith) c.in_default.ensures))
    (c.pages.invariant.nowhere blocks s before))
