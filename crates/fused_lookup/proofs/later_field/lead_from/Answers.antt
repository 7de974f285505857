use Rattle.std.proofs.Common.{◌≡◌, refl, ◌*◌, ◌≤◌, sym, ◌∙◌, arith, length, Bool}
use Rattle.set_model.specs.declared.block.Block.{Block}
use Rattle.set_model.specs.Blocks.{holds_value}
use Rattle.set_tables.specs.Rows.{matched}
use Rattle.fused_lookup.specs.Window.{IsNextWord}
use Rattle.fused_lookup.proofs.LedLaws.{nowhere-none, nowhere-skip, led-skip, led-all}
use Rattle.fused_lookup.proofs.MatchLaws.{length-left, left-unset, left-below, taken-none, taken-skip, taken-more, taken-all, taken-left}
use Rattle.fused_lookup.proofs.WindowLaws.{unset-between, unset-rest}
use Rattle.fused_lookup.proofs.later_field.lead_from.Goals as goal

pub words-init : goal.words-init
words-init c = record {
  taken = taken-none c.args.row.now.bits c.args.window c.requires.window;
  led = λ blocks s.
      let test : Block → Bool = λ rule. holds_value rule c.args.value in
      let n = s.one_each in
      let room : length blocks ≤ length c.args.row.now.bits = omega (arith, c.requires.room) in
      let long : length (matched test blocks c.args.row.now.bits) ≡ length c.args.ends.now.items = length-left test blocks c.args.row.now.bits room ∙ n ∙ sym c.requires.rules in
      nowhere-skip c.args.ends.now.items (matched test blocks c.args.row.now.bits) c.args.now 0 (64 * c.args.window.first) long
      (λ k low high. left-below test blocks c.args.row.now.bits c.args.window room c.requires.window k high) (nowhere-none c.args.ends.now.items (matched test blocks c.args.row.now.bits) c.args.now);
  spare = refl;
}

pub next_word-requires : goal.next_word-requires
next_word-requires c = omega (arith, c.requires.window.within)

pub take_word-left-requires : goal.take_word-left-requires
take_word-left-requires c = let inside = c.in-Some.ensures.within in omega (arith, c.requires.window.within, c.words.invariant.taken.long)

pub words-preserved : goal.words-preserved
words-preserved c =
    let next : IsNextWord c.args.window c.words.from c.in-Some.i = c.in-Some.ensures in
    let low : c.words.from ≤ c.in-Some.i = next.from_on in
    let old = c.args.row.now.bits in
    let unset = unset-between old c.args.window c.words.from c.in-Some.i c.requires.window next.least in
    let taken = taken-skip c.words.from c.in-Some.i old c.words.row.bits low unset c.words.invariant.taken in
    record {
      taken = taken-more c.in-Some.i old c.words.row.bits c.take_word-left.new.self.bits taken c.take_word-left.ensures.bits;
      led = λ blocks s.
          let test : Block → Bool = λ rule. holds_value rule c.args.value in
          let n = s.one_each in
          let room : length blocks ≤ length old = omega (arith, c.requires.room) in
          let long : length (matched test blocks old) ≡ length c.args.ends.now.items = length-left test blocks old room ∙ n ∙ sym c.requires.rules in
          c.led_on-found.ensures blocks old s c.requires.room (taken-left c.args.table.now.rules c.in-Some.i c.take_word-left.result old c.words.row.bits taken c.take_word-left.ensures.word)
          (led-skip c.args.ends.now.items (matched test blocks old) c.args.now (64 * c.words.from) (64 * c.in-Some.i) c.words.found long
          (λ k a b. left-unset test blocks old k room (unset k a b)) (c.words.invariant.led blocks s));
      spare = c.take_word-left.ensures.spare ∙ c.words.invariant.spare;
    }

pub returns-clause-led : goal.returns-clause-led
returns-clause-led c = λ blocks s.
    let test : Block → Bool = λ rule. holds_value rule c.args.value in
    let n = s.one_each in
    let old = c.args.row.now.bits in
    let room : length blocks ≤ length old = omega (arith, c.requires.room) in
    let long : length (matched test blocks old) ≡ length c.args.ends.now.items = length-left test blocks old room ∙ n ∙ sym c.requires.rules in
    led-all c.args.ends.now.items (matched test blocks old) c.args.now (64 * c.words.from) c.words.found long
    (λ k low. left-unset test blocks old k room (unset-rest old c.args.window c.words.from c.requires.window c.in_default.ensures k low)) (c.words.invariant.led blocks s)

pub returns-clause-clear : goal.returns-clause-clear
returns-clause-clear c =
    taken-all c.words.from c.args.row.now.bits c.words.row.bits (unset-rest c.args.row.now.bits c.args.window c.words.from c.requires.window c.in_default.ensures) c.words.invariant.taken

pub returns-clause-len : goal.returns-clause-len
returns-clause-len c = c.words.invariant.taken.long
