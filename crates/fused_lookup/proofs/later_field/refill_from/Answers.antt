use Rattle.std.proofs.Common.{◌≡◌, refl, ◌+◌, ◌*◌, ◌≤◌, sym, ◌∙◌, arith, length, Bool}
use Rattle.set_model.specs.declared.block.Block.{Block}
use Rattle.set_model.specs.Blocks.{holds_value}
use Rattle.set_tables.specs.Rows.{matched}
use Rattle.fused_lookup.specs.Window.{IsNextWord}
use Rattle.fused_lookup.proofs.FillLaws.{filled-none, filled-skip, filled-all, inside-more}
use Rattle.fused_lookup.proofs.MatchLaws.{length-left, left-unset, left-below, taken-none, taken-skip, taken-more, taken-all, taken-left}
use Rattle.fused_lookup.proofs.WindowLaws.{clear-window, unset-between, unset-rest}
use Rattle.fused_lookup.proofs.later_field.refill_from.Goals as goal

pub words-init : goal.words-init
words-init c = record {
  taken = taken-none c.args.row.now.bits c.args.window c.requires.window;
  filled = λ blocks s.
      let test : Block → Bool = λ rule. holds_value rule c.args.value in
      let n = s.one_each in
      let room : length blocks ≤ length c.args.row.now.bits = omega (arith, c.requires.room) in
      let long : length (matched test blocks c.args.row.now.bits) ≡ length c.args.spans.now.items = length-left test blocks c.args.row.now.bits room ∙ n ∙ sym c.requires.rules in
      filled-skip c.args.spans.now.items (matched test blocks c.args.row.now.bits) 0 (64 * c.args.window.first) c.args.next.now.bits long (omega arith)
      (λ k low high. left-below test blocks c.args.row.now.bits c.args.window room c.requires.window k high) (filled-none c.args.spans.now.items (matched test blocks c.args.row.now.bits) c.args.next.now.bits c.requires.clear);
  window = clear-window c.args.next.now.bits c.none-reached.result c.none-reached.ensures c.requires.clear;
  spare = refl;
  next_len = refl;
  next_spare = refl;
}

pub next_word-requires : goal.next_word-requires
next_word-requires c = omega (arith, c.requires.window.within)

pub take_word-left-requires : goal.take_word-left-requires
take_word-left-requires c = let inside = c.in-Some.ensures.within in omega (arith, c.requires.window.within, c.words.invariant.taken.long)

pub refill_on-reached-requires-clause-inside : goal.refill_on-reached-requires-clause-inside
refill_on-reached-requires-clause-inside c = inside-more c.args.spans.now.items (length c.args.next.now.bits) (length c.words.next.bits) c.words.invariant.next_len c.requires.inside

pub words-preserved : goal.words-preserved
words-preserved c =
    let next : IsNextWord c.args.window c.words.from c.in-Some.i = c.in-Some.ensures in
    let low : c.words.from ≤ c.in-Some.i = next.from_on in
    let old = c.args.row.now.bits in
    let unset = unset-between old c.args.window c.words.from c.in-Some.i c.requires.window next.least in
    let taken = taken-skip c.words.from c.in-Some.i old c.words.row.bits low unset c.words.invariant.taken in
    record {
      taken = taken-more c.in-Some.i old c.words.row.bits c.take_word-left.new.self.bits taken c.take_word-left.ensures.bits;
      filled = λ blocks s.
          let test : Block → Bool = λ rule. holds_value rule c.args.value in
          let n = s.one_each in
          let room : length blocks ≤ length old = omega (arith, c.requires.room) in
          let long : length (matched test blocks old) ≡ length c.args.spans.now.items = length-left test blocks old room ∙ n ∙ sym c.requires.rules in
          c.refill_on-reached.ensures.filled blocks old s c.requires.room (taken-left c.args.table.now.rules c.in-Some.i c.take_word-left.result old c.words.row.bits taken c.take_word-left.ensures.word)
          (filled-skip c.args.spans.now.items (matched test blocks old) (64 * c.words.from) (64 * c.in-Some.i) c.words.next.bits long (omega arith)
          (λ k a b. left-unset test blocks old k room (unset k a b)) (c.words.invariant.filled blocks s));
      window = c.refill_on-reached.ensures.window;
      spare = c.take_word-left.ensures.spare ∙ c.words.invariant.spare;
      next_len = c.refill_on-reached.ensures.len ∙ c.words.invariant.next_len;
      next_spare = c.refill_on-reached.ensures.spare ∙ c.words.invariant.next_spare;
    }

pub returns-clause-refilled : goal.returns-clause-refilled
returns-clause-refilled c = λ blocks s.
    let test : Block → Bool = λ rule. holds_value rule c.args.value in
    let n = s.one_each in
    let old = c.args.row.now.bits in
    let m = matched test blocks old in
    let room : length blocks ≤ length old = omega (arith, c.requires.room) in
    let long : length (matched test blocks old) ≡ length c.args.spans.now.items = length-left test blocks old room ∙ n ∙ sym c.requires.rules in
    let all = filled-skip c.args.spans.now.items m (64 * c.words.from) (64 * c.words.from + length c.args.spans.now.items) c.words.next.bits long (omega arith)
    (λ k low high. left-unset test blocks old k room (unset-rest old c.args.window c.words.from c.requires.window c.in_default.ensures k low)) (c.words.invariant.filled blocks s) in
    filled-all c.args.spans.now.items m (64 * c.words.from + length c.args.spans.now.items) c.words.next.bits long (omega arith) all

pub returns-clause-clear : goal.returns-clause-clear
returns-clause-clear c =
    taken-all c.words.from c.args.row.now.bits c.words.row.bits (unset-rest c.args.row.now.bits c.args.window c.words.from c.requires.window c.in_default.ensures) c.words.invariant.taken

pub returns-clause-len : goal.returns-clause-len
returns-clause-len c = c.words.invariant.taken.long
