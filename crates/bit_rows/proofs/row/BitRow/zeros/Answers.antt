use Rattle.std.proofs.Common.{◌∙◌, ap, rules}
use Rattle.bit_rows.proofs.Rows.{row-zeros, bits-zeros, place-nil}
use Rattle.bit_rows.proofs.row.BitRow.zeros.Goals as goal
use Rattle.bit_rows.specs.Words.{bit_in}

pub invariant_of-result : goal.invariant_of-result
invariant_of-result c = record {
  row = row-zeros _ _ _ c.words_taken.ensures.steps c.words_taken.ensures.small (search rules) c.in_ok-grow.ensures.length
      (λ i. c.in_ok-grow.ensures.places i ∙ ap (λ w. bit_in w i) c.new-words.ensures.items ∙ place-nil i);
  full = let full = c.in_ok-grow.ensures.full in search rules;
}

pub returns-clause-zeros : goal.returns-clause-zeros
returns-clause-zeros c =
    let none = bits-zeros _ c.args.len (λ i. c.in_ok-grow.ensures.places i ∙ ap (λ w. bit_in w i) c.new-words.ensures.items ∙ place-nil i) in
    search rules
