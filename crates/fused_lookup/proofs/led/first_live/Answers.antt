use Rattle.std.proofs.Common.{rules, ◌≡◌, sym, ◌∙◌, ap, ◌+◌, ◌*◌, get_or, Some, arith}
use Rattle.std.proofs.lemmas.Bool.{OnTrue_at}
use Rattle.set_model.specs.Expiry.{lives}
use Rattle.mapping_table.proofs.WordLaws.{word-within, word-read}
use Rattle.fused_lookup.specs.Words.{IsNextBit}
use Rattle.fused_lookup.proofs.LedLaws.{some_end, led-bit, nowhere-bit, nowhere-rest, nowhere-zero, nowhere-expired}
use Rattle.fused_lookup.proofs.led.first_live.Goals.{then-word-eq0-via-then-word-eq0, then-word-eq0-via-else-word-eq0+then-is_word_expired}
use Rattle.fused_lookup.proofs.led.first_live.Goals as goal

pub returns-then-word-eq0 : goal.returns-then-word-eq0
returns-then-word-eq0 c = λ row long is before.
    elim c.then-word-eq0.branch [
      | then-word-eq0-via-then-word-eq0 w ↦ nowhere-zero c.args.ends.now.items row c.args.now c.args.i c.args.word long is w.if-word-eq0.true before
      | then-word-eq0-via-else-word-eq0+then-is_word_expired w ↦ nowhere-expired c.args.ends.now.items row c.args.now c.args.i long (OnTrue_at w.if-is_word_expired.true w.is_word_expired.ensures) before
    ]

pub bounds-word_ends-k : goal.bounds-word_ends-k
bounds-word_ends-k c =
    let next : IsNextBit c.args.word c.rules.from c.in-Some.k = c.in-Some.ensures in
    word-within c.args.ends.now.items c.word-word_ends.result.now c.args.i c.in-Some.k c.word-word_ends.ensures next.within (c.requires.rule c.in-Some.k next.within next.set)

pub returns-then-is_live : goal.returns-then-is_live
returns-then-is_live c = λ row long is before.
    let next : IsNextBit c.args.word c.rules.from c.in-Some.k = c.in-Some.ensures in
    let same : get_or c.word-word_ends.result.now c.in-Some.k some_end ≡ get_or c.args.ends.now.items (64 * c.args.i + c.in-Some.k) some_end =
    word-read c.args.ends.now.items c.word-word_ends.result.now c.args.i c.in-Some.k some_end c.word-word_ends.ensures next.within in
    ap (λ e. Some e.place) same
    ∙ led-bit c.args.ends.now.items row c.args.now c.args.i c.args.word c.rules.from c.in-Some.k long is next (c.requires.rule c.in-Some.k next.within next.set)
    (ap (λ e. lives e.expiry c.args.now) (sym same) ∙ sym c.is_live.ensures ∙ c.if-is_live.true) (c.rules.invariant.nowhere row long is before)

pub rules-preserved : goal.rules-preserved
rules-preserved c =
    let next : IsNextBit c.args.word c.rules.from c.in-Some.k = c.in-Some.ensures in
    let same : get_or c.word-word_ends.result.now c.in-Some.k some_end ≡ get_or c.args.ends.now.items (64 * c.args.i + c.in-Some.k) some_end =
    word-read c.args.ends.now.items c.word-word_ends.result.now c.args.i c.in-Some.k some_end c.word-word_ends.ensures next.within in
    record {
      low = omega (arith, next.within);
      nowhere = λ row long is before.
          search (
            rules,
            nowhere-bit c.args.ends.now.items row c.args.now c.args.i c.args.word c.rules.from c.in-Some.k long is next (c.requires.rule c.in-Some.k next.within next.set)
                (ap (λ e. lives e.expiry c.args.now) (sym same) ∙ sym c.is_live.ensures ∙ c.if-is_live.false) (c.rules.invariant.nowhere row long is before),
          );
    }

pub returns : goal.returns
returns c = λ row long is before.
    nowhere-rest c.args.ends.now.items row c.args.now c.args.i c.args.word c.rules.from long is c.in_default.ensures (c.rules.invariant.nowhere row long is before)
