use Rattle.std.proofs.Common.{◌<◌, ◌+◌, ◌*◌, ◌/◌, ℕ, refl, ◌∙◌, ap, arith, rules, get_or, bit_and}
use Rattle.bit_rows.specs.Row.{bit}
use Rattle.bit_rows.proofs.Bits.{bit-zero}
use Rattle.bit_rows.proofs.Places.{next-found, none-more, none-join, head-bits, head-set, head-clear}
use Rattle.bit_rows.proofs.words.next_place.Goals as goal

pub returns-then-head-ne0 : goal.returns-then-head-ne0
returns-then-head-ne0 c =
    let word : ℕ = get_or c.args.words.now (c.args.from / 64) 0 in
    let head : ℕ = bit_and word c.mask.result in
    let made = head-bits word c.mask.result c.args.from head refl (λ k h. let ones = c.mask.ensures k h in search rules) in
    let bound : c.lowest.result < 64 = c.lowest.ensures.bound in
    let here = head-set word c.args.from c.lowest.result head bound (made c.lowest.result bound) c.lowest.ensures.set in
    next-found c.args.words.now c.args.from (64 * c.args.n) (c.args.from / 64) c.lowest.result (record { none = λ i a b. absurd (omega arith) }) bound here.1 (omega arith) here.0
    (λ k l low. head-clear word c.args.from k head (omega arith) (made k (omega arith)) (c.lowest.ensures.least k l) low)

pub words-init : goal.words-init
words-init c =
    let word : ℕ = get_or c.args.words.now (c.args.from / 64) 0 in
    let head : ℕ = bit_and word c.mask.result in
    let made = head-bits word c.mask.result c.args.from head refl (λ k h. let ones = c.mask.ensures k h in search rules) in
    none-join _ _ (c.args.from / 64 + 1) _
    (none-more c.args.words.now c.args.from (c.args.from / 64) (record { none = λ i a b. absurd (omega arith) })
    (λ k h low. head-clear word c.args.from k head h (made k h) (ap (λ x. bit x k) c.if-head-ne0.false ∙ bit-zero k) low))
    (record { none = c.past_zero_lanes-w.ensures.clear })

pub returns-then-word-ne0 : goal.returns-then-word-ne0
returns-then-word-ne0 c =
    next-found c.args.words.now c.args.from (64 * c.args.n) c.words.w c.lowest-then-word-ne0.result c.words.invariant c.lowest-then-word-ne0.ensures.bound (omega arith) (omega arith) c.lowest-then-word-ne0.ensures.set
    (λ k l low. c.lowest-then-word-ne0.ensures.least k l)

pub words-preserved : goal.words-preserved
words-preserved c =
    none-more c.args.words.now c.args.from c.words.w c.words.invariant (λ k h low. ap (λ x. bit x k) c.if-word-ne0.false ∙ bit-zero k)
