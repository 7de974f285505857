-- A refill, after one more rule and at its end.
use Rattle.std.proofs.Common.{zero, suc, add-zero, ◌≡◌, refl, sym, ◌∙◌, ap, ℕ, ◌+◌, ◌<◌, ◌≤◌, Bool, true, false, ◌&&◌, ◌||◌, List, length, take, get_or, arith}
use Rattle.std.specs.List.{zip, list_any}
use Rattle.std.proofs.lemmas.List.{take_all}
use Rattle.std.proofs.lemmas.List.FromFn.{fill_by_all}
use Rattle.std.proofs.lemmas.List.Folds.{list_any_more}
use Rattle.std.proofs.lemmas.Slice.Zip.{length-zip, get_or-zip}
use Rattle.set_tables.specs.declared.Span.{Span}
use Rattle.set_tables.specs.Rows.{reaches, reached, refilled, span_holds}

reached-more : (spans : List Span) (row : List Bool) (r i : ℕ) (d : Span) (b : Bool) → i < length spans → length row ≡ length spans → get_or row i false ≡ b
    → list_any (reaches r) (take (i + 1) (zip spans row)) ≡ (list_any (reaches r) (take i (zip spans row)) || (b && span_holds r (get_or spans i d)))
reached-more spans row r i d b h g q =
    let short : i < length row = omega arith in
    let n = length-zip spans row in
    let within : i < length (zip spans row) = omega arith in
    list_any_more (reaches r) (zip spans row) i (d, false) within
    ∙ ap (λ z. list_any (reaches r) (take i (zip spans row)) || reaches r z) (get_or-zip spans row i (d, false) h short)
    ∙ ap (λ z. list_any (reaches r) (take i (zip spans row)) || (z && span_holds r (get_or spans i d))) q

-- the rule at i is matched, and its span is set
pub refill-set : (spans : List Span) (row : List Bool) (r i : ℕ) (d : Span) (old new : Bool) → i < length spans → length row ≡ length spans → get_or row i false ≡ true
    → old ≡ list_any (reaches r) (take i (zip spans row)) → new ≡ (old || span_holds r (get_or spans i d)) → new ≡ list_any (reaches r) (take (i + 1) (zip spans row))
refill-set spans row r i d old new h g b p q = q ∙ ap (λ z. z || span_holds r (get_or spans i d)) p ∙ sym (reached-more spans row r i d true h g b)

or-false : (t : Bool) → t ≡ (t || false)
or-false true = refl
or-false false = refl

-- the rule at i isn't matched
pub refill-kept : (spans : List Span) (row : List Bool) (r i : ℕ) (d : Span) (old : Bool) → i < length spans → length row ≡ length spans → get_or row i false ≡ false
    → old ≡ list_any (reaches r) (take i (zip spans row)) → old ≡ list_any (reaches r) (take (i + 1) (zip spans row))
refill-kept spans row r i d old h g b p = p ∙ or-false _ ∙ sym (reached-more spans row r i d false h g b)

pub reached-all : (spans : List Span) (row next : List Bool) (n i : ℕ) → length row ≡ length spans → length spans ≤ i → length next ≡ n
    → ((r : ℕ) → r < n → get_or next r false ≡ list_any (reaches r) (take i (zip spans row))) → next ≡ refilled spans row n
reached-all spans row next n i h g k each =
    let m = length-zip spans row in
    let whole : take i (zip spans row) ≡ zip spans row = take_all i (zip spans row) (omega arith) in
    fill_by_all (reached spans row) next n false k (λ r l. each r l ∙ ap (list_any (reaches r)) whole)

-- A run of rules that aren't matched adds nothing: a word of zeros can be skipped.
pub refill-skipped : (spans : List Span) (row : List Bool) (r i n : ℕ) (d : Span) (old : Bool) → i + n ≤ length spans → length row ≡ length spans
    → ((k : ℕ) → i ≤ k → k < i + n → get_or row k false ≡ false) → old ≡ list_any (reaches r) (take i (zip spans row)) → old ≡ list_any (reaches r) (take (i + n) (zip spans row))
refill-skipped spans row r i zero d old h g b p = rw (add-zero i) p
refill-skipped spans row r i (suc n) d old h g b p =
    let next : i + suc n ≡ (i + n) + 1 = omega arith in
    let ih = refill-skipped spans row r i n d old (omega arith) g (λ k l m. b k l (omega arith)) p in
    rw next (refill-kept spans row r (i + n) d old (omega arith) g (b (i + n) (omega arith) (omega arith)) ih)
