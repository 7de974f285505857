use Rattle.std.proofs.Common.{◌≡◌, refl, ◌∙◌, ap, arith, length, false}
use Rattle.std.proofs.lemmas.List.{length-replicate}
use Rattle.bit_rows.specs.Row.{at}
use Rattle.pipapo_image.proofs.FusedLaws.{zeros-at}
use Rattle.pipapo_image.proofs.index.scratch.blank_row.Goals as goal

pub returns-clause-blank : goal.returns-clause-blank
returns-clause-blank c =
    let long : length c.in_ok-row.row.bits ≡ 1048576 = ap length c.in_ok-row.ensures.zeros ∙ length-replicate 1048576 false in
    record {
      long = long;
      full = c.in_ok-row.ensures.tight refl;
      clear = record { places = λ i. ap (λ xs. at xs i) c.in_ok-row.ensures.zeros ∙ zeros-at 1048576 i };
    }

pub returns-clause-room : goal.returns-clause-room
returns-clause-room c =
    let long : length c.in_ok-row.row.bits ≡ 1048576 = ap length c.in_ok-row.ensures.zeros ∙ length-replicate 1048576 false in
    record { room = omega (arith, long, c.in_ok-row.ensures.tight refl) }
