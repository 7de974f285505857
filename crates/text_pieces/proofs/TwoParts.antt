-- A text of two parts that are appended one after the other.
use Rattle.std.proofs.Common.{◌≡◌, sym, ◌∙◌, ap, ℕ, List, ◌++◌, append_assoc, Result, Ok, Err, OnOk, OnErr}
use Rattle.text_pieces.specs.Appends.{AppendsPart}

-- A part of the first one was appended.
pub first_part : (old new first second : List ℕ) → AppendsPart old new first → AppendsPart old new (first ++ second)
first_part old new first second here = record {
  part = here.part;
  rest = here.rest ++ second;
  appended = here.appended;
  front = ap (λ t. t ++ second) here.front ∙ append_assoc here.part here.rest second;
}

-- The first one was appended, and a part of the second one.
pub second_part : (old mid new first second : List ℕ) → mid ≡ old ++ first → AppendsPart mid new second → AppendsPart old new (first ++ second)
second_part old mid new first second so_far here = record {
  part = first ++ here.part;
  rest = here.rest;
  appended = here.appended ∙ ap (λ m. m ++ here.part) so_far ∙ append_assoc old first here.part;
  front = ap (λ t. first ++ t) here.front ∙ sym (append_assoc first here.part here.rest);
}

-- What holds at a success follows from what the last call says of one.
pub ok-with : {T E P Q : Type 0} (r : Result T E) → (P → Q) → OnOk r P → OnOk r Q
ok-with (Ok v) f h = f h
ok-with (Err e) f h = tt

-- The same of an error.
pub err-with : {T E P Q : Type 0} (r : Result T E) → (P → Q) → OnErr r P → OnErr r Q
err-with (Ok v) f h = tt
err-with (Err e) f h = f h

pub ruleset two_parts = (first_part, second_part)
