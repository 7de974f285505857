use Rattle.std.proofs.Common.{◌≡◌, ℕ, ◌∙◌, ap, ◌+◌, ◌*◌, ◌/◌, ◌%◌, length-set, arith, rules}
use Rattle.bit_rows.specs.Words.{bit_in}
use Rattle.bit_rows.proofs.Places.{closed-start, closed-more}
use Rattle.bit_rows.proofs.words.close_up.Goals as goal

pub whole-init : goal.whole-init
whole-init c = closed-start _ _ _ _ (omega arith) (λ k h. rw (← c.word_from-moved.ensures k h) (c.merged.ensures k h))

pub whole-preserved : goal.whole-preserved
whole-preserved c = closed-more _ _ _ _ _ _ (omega arith) (omega (arith, length-set {A = ℕ})) c.whole.invariant
    (λ k h. let e : 64 * (c.whole.w + c.args.n / 64) + c.args.n % 64 + k ≡ c.whole.w * 64 + c.args.n + k = omega arith in
    c.word_within.ensures k h ∙ ap (bit_in c.whole.words) e)

pub last-preserved : goal.last-preserved
last-preserved c = closed-more _ _ _ _ _ _ (omega arith) (omega (arith, length-set {A = ℕ})) c.last.invariant (λ k h. let moved = c.word_from.ensures k h in search rules)
