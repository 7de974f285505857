use Rattle.std.proofs.Common.{◌≡◌, ◌+◌, ◌*◌, ◌≤◌, ◌<◌, sym, ◌∙◌, subst, arith, length, Bool, true}
use Rattle.std.specs.Prelude.{replicate}
use Rattle.std.proofs.lemmas.List.{length-replicate}
use Rattle.set_model.specs.declared.block.Block.{Block}
use Rattle.set_model.specs.Blocks.{holds_value}
use Rattle.set_tables.specs.Rows.{matched}
use Rattle.fused_lookup.specs.Words.{IsNextBit}
use Rattle.fused_lookup.specs.Filled.{IsFilled}
use Rattle.fused_lookup.proofs.FillLaws.{filled-skip, inside-more}
use Rattle.fused_lookup.proofs.MatchLaws.{length-left, has-rules}
use Rattle.fused_lookup.proofs.SieveLaws.{word-matched, none-matched}
use Rattle.fused_lookup.proofs.CandidateLaws.{none-between}
use Rattle.fused_lookup.proofs.first_field.refill_page.Goals as goal

pub match_at-word-requires-clause-word : goal.match_at-word-requires-clause-word
match_at-word-requires-clause-word c =
    let next : IsNextBit c.candidates-candidates.result c.words.from c.in-Some.k = c.in-Some.ensures in
    c.candidates-candidates.ensures.within c.in-Some.k next.within next.set

pub refill_word-window-requires-clause-rules : goal.refill_word-window-requires-clause-rules
refill_word-window-requires-clause-rules c =
    has-rules (length c.args.spans.now.items) (64 * c.args.p + c.in-Some.k) c.match_at-word.result (λ k h p. c.match_at-word.ensures.past k h (omega (arith, c.requires.rules)))

pub refill_word-window-requires-clause-inside : goal.refill_word-window-requires-clause-inside
refill_word-window-requires-clause-inside c = inside-more c.args.spans.now.items (length c.args.next.now.bits) (length c.words.next.bits) c.words.invariant.len c.requires.inside

pub words-preserved : goal.words-preserved
words-preserved c = record {
  low = omega (arith, c.in-Some.ensures.within);
  filled = λ blocks s before.
      let next : IsNextBit c.candidates-candidates.result c.words.from c.in-Some.k = c.in-Some.ensures in
      let low : c.words.from ≤ c.in-Some.k = next.from_on in
      let high : c.in-Some.k < 64 = next.within in
      let test : Block → Bool = λ rule. holds_value rule c.args.probe.value in
      let ones = length-replicate c.args.table.now.rules true in
      let n = s.one_each in
      let m = matched test blocks (replicate c.args.table.now.rules true) in
      let long : length m ≡ length c.args.spans.now.items = length-left test blocks (replicate c.args.table.now.rules true) (omega arith) ∙ n ∙ sym c.requires.rules in
      let up : 64 * c.args.p + c.in-Some.k + 1 ≡ 64 * c.args.p + (c.in-Some.k + 1) = omega arith in
      let skipped = filled-skip c.args.spans.now.items m (64 * (64 * c.args.p + c.words.from)) (64 * (64 * c.args.p + c.in-Some.k)) c.words.next.bits long (omega arith)
      (none-matched c.args.table.now c.args.probe.value blocks _ _ s (none-between c.args.table.now c.args.probe.value c.args.p c.candidates-candidates.result c.words.from c.in-Some.k c.candidates-candidates.ensures.none (omega arith) next.least))
      (c.words.invariant.filled blocks s before) in
      subst (λ z. IsFilled c.args.spans.now.items m (64 * z) c.refill_word-window.new.next.bits) up
      (c.refill_word-window.ensures.filled m long
      (word-matched c.args.table.now test blocks (64 * c.args.p + c.in-Some.k) c.match_at-word.result s (c.match_at-word.ensures.held blocks s) c.match_at-word.ensures.past) skipped);
  window = c.refill_word-window.ensures.window;
  len = c.refill_word-window.ensures.len ∙ c.words.invariant.len;
  spare = c.refill_word-window.ensures.spare ∙ c.words.invariant.spare;
}

pub returns-clause-filled : goal.returns-clause-filled
returns-clause-filled c = λ blocks s before.
    let test : Block → Bool = λ rule. holds_value rule c.args.probe.value in
    let low : c.words.from ≤ 64 = c.words.invariant.low in
    let ones = length-replicate c.args.table.now.rules true in
    let n = s.one_each in
    let m = matched test blocks (replicate c.args.table.now.rules true) in
    let long : length m ≡ length c.args.spans.now.items = length-left test blocks (replicate c.args.table.now.rules true) (omega arith) ∙ n ∙ sym c.requires.rules in
    let up : 64 * c.args.p + 64 ≡ 64 * (c.args.p + 1) = omega arith in
    subst (λ z. IsFilled c.args.spans.now.items m (64 * z) c.words.next.bits) up
    (filled-skip c.args.spans.now.items m (64 * (64 * c.args.p + c.words.from)) (64 * (64 * c.args.p + 64)) c.words.next.bits long (omega arith)
    (none-matched c.args.table.now c.args.probe.value blocks _ _ s (none-between c.args.table.now c.args.probe.value c.args.p c.candidates-candidates.result c.words.from 64 c.candidates-candidates.ensures.none (omega arith) c.in_default.ensures))
    (c.words.invariant.filled blocks s before))
