use Rattle.std.proofs.Common.{◌≡◌, cond, ◌-◌, ◌^◌, arith}
use Rattle.std.proofs.lemmas.Bool.{cond-true, cond-false}
use Rattle.bit_rows.proofs.Places.{filled-places}
use Rattle.bit_rows.proofs.Written.{written-until}
use Rattle.bit_rows.proofs.words.fill_words.Goals as goal
use Rattle.bit_rows.proofs.words.fill_words.Goals.{then-bit, else-bit}

pub returns-clause-places : goal.returns-clause-places
returns-clause-places c =
    let word : c.if-bit.word ≡ cond c.args.bit (2 ^ 64 - 1) 0 = elim c.if-bit.branch [
      | then-bit w ↦ let chosen = cond-true c.args.bit (2 ^ 64 - 1) 0 w.if-bit.true in let is = w.word-is in cc
      | else-bit w ↦ let chosen = cond-false c.args.bit (2 ^ 64 - 1) 0 w.if-bit.false in let is = w.word-is in cc
    ] in
    filled-places c.args.bit c.if-bit.word _ _ _ _ word (written-until _ _ _ _ _ _ (omega arith) c.words.invariant)
