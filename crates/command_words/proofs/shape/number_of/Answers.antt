use Rattle.std.proofs.Common.{◌≡◌, sym, ◌∙◌, ap, arith, decimal, true≢false}
use Rattle.std.specs.Prelude.{bytes_eq}
use Rattle.command_words.proofs.CommandWords.{number-none, number-complete, same-bytes, bytes-same}
use Rattle.command_words.proofs.shape.number_of.Goals as goal
use Rattle.command_words.proofs.shape.number_of.Goals.{else-low-n-via-then-low-n+then-n-high+else-eq, else-low-n-via-then-low-n+else-n-high, else-low-n-via-else-low-n}

pub returns-in-Err : goal.returns-in-Err
returns-in-Err c = number-none c.args.low c.args.high c.args.word.now c.parse.result (omega (arith, c.ranges.high.fits)) c.parse.ensures.value.0 (λ n e h. cc c.in-Err.is)

pub returns-then-eq : goal.returns-then-eq
returns-then-eq c =
    let same : c.format.result.now ≡ c.args.word.now = same-bytes _ _ (sym c.eq.ensures ∙ c.if-eq.true) in
    sym (number-complete c.args.low c.args.high c.args.word.now c.in-Ok.n (omega (arith, c.ranges.high.fits)) (sym same ∙ c.format.ensures.text, omega arith, omega arith))

pub returns-else-low-n : goal.returns-else-low-n
returns-else-low-n c =
    number-none c.args.low c.args.high c.args.word.now c.parse.result (omega (arith, c.ranges.high.fits)) c.parse.ensures.value.0
    (λ n e h. let same : c.in-Ok.n ≡ n = cc (c.in-Ok.is, e) in elim c.else-low-n.branch [
      | else-low-n-via-then-low-n+then-n-high+else-eq w ↦ let here : w.format.result.now ≡ c.args.word.now = w.format.ensures.text ∙ ap decimal same ∙ sym h.0 in true≢false (sym (w.eq.ensures ∙ ap (λ t. bytes_eq t c.args.word.now) here ∙ bytes-same c.args.word.now) ∙ w.if-eq.false)
      | else-low-n-via-then-low-n+else-n-high w ↦ omega (arith, same, h.2)
      | else-low-n-via-else-low-n w ↦ omega (arith, same, h.1)
    ])
