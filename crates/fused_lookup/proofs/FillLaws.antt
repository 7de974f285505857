-- The next field's row, rule by rule and word by word.
use Rattle.std.proofs.Common.{◌≡◌, refl, sym, ◌∙◌, ap, ℕ, zero, suc, ◌+◌, ◌-◌, ◌*◌, ◌<◌, ◌≤◌, ◌⊎◌, inl, inr, Bool, true, false, ◌&&◌, ◌||◌, nat_le, List, length, get_or, subst, arith, add-zero}
use Rattle.std.specs.Prelude.{All}
use Rattle.std.specs.List.{zip, list_any}
use Rattle.std.proofs.lemmas.Bool.{cases_lt, lt-ltb}
use Rattle.std.proofs.lemmas.List.{take_all}
use Rattle.std.proofs.lemmas.List.FromFn.{fill_by_all}
use Rattle.std.proofs.lemmas.Slice.Zip.{length-zip}
use Rattle.bit_rows.specs.Row.{at, with_run, bit, lies}
use Rattle.bit_rows.proofs.Rows.{at-run}
use Rattle.bit_rows.proofs.Tests.{by-run, or-true, or-false, lies-in, lies-above}
use Rattle.set_tables.specs.declared.Span.{Span}
use Rattle.set_tables.specs.Rows.{reaches, reached, refilled}
use Rattle.mapping_table.specs.Spared.{word_of}
use Rattle.mapping_table.proofs.Refill.{refill-set, refill-kept}
use Rattle.mapping_table.proofs.WordLaws.{word-read}
use Rattle.fused_lookup.specs.Words.{IsWordOf, IsWithinRules, IsNextBit, IsRunEnd}
use Rattle.fused_lookup.specs.Filled.{AreChained, IsClear, IsFilled, reached_by}

-- a span without rules, as a default
abbrev pub no_span : Span
no_span = record { first = 0; count = 0 }

pub filled-none : (spans : List Span) (bits next : List Bool) → IsClear next → IsFilled spans bits 0 next
filled-none spans bits next clear = record { places = λ r. clear.places r }

-- after the last rule nothing is added
past-all : (spans : List Span) (row : List Bool) (n r : ℕ) → length row ≡ length spans → length spans ≤ n → reached_by spans row n r ≡ reached spans row r
past-all spans row n r long past =
    let m = length-zip spans row in
    ap (list_any (reaches r)) (take_all n (zip spans row) (omega arith))

-- a rule that isn't matched, or none
kept-one : (spans : List Span) (row : List Bool) (n r : ℕ) → length row ≡ length spans → at row n ≡ false → reached_by spans row n r ≡ reached_by spans row (n + 1) r
kept-one spans row n r long unset = go (cases_lt n (length spans)) where
  go : (n < length spans) ⊎ (length spans ≤ n) → reached_by spans row n r ≡ reached_by spans row (n + 1) r
  go (inl l) = refill-kept spans row r n no_span (reached_by spans row n r) l long unset refl
  go (inr l) = past-all spans row n r long l ∙ sym (past-all spans row (n + 1) r long (omega arith))

kept : (spans : List Span) (row : List Bool) (a d r : ℕ) → length row ≡ length spans → ((k : ℕ) → a ≤ k → k < a + d → at row k ≡ false) → reached_by spans row a r ≡ reached_by spans row (a + d) r
kept spans row a zero r long unset = ap (λ n. reached_by spans row n r) (sym (add-zero a))
kept spans row a (suc d) r long unset =
    let e : (a + d) + 1 ≡ a + suc d = omega arith in
    kept spans row a d r long (λ k l m. unset k l (omega arith))
    ∙ kept-one spans row (a + d) r long (unset (a + d) (omega arith) (omega arith))
    ∙ ap (λ n. reached_by spans row n r) e

-- rules that aren't matched can be skipped
pub filled-skip : (spans : List Span) (row : List Bool) (a b : ℕ) (next : List Bool) → length row ≡ length spans → a ≤ b → ((k : ℕ) → a ≤ k → k < b → at row k ≡ false)
    → IsFilled spans row a next → IsFilled spans row b next
filled-skip spans row a b next long order unset filled =
    let e : a + (b - a) ≡ b = omega arith in
    record { places = λ r. filled.places r ∙ kept spans row a (b - a) r long (λ k l m. unset k l (omega arith)) ∙ ap (λ n. reached_by spans row n r) e }

-- ---- runs of matched rules

lies-both : (p : Bool) (a b c d i : ℕ) → a ≤ c → c ≤ b → b ≤ d → ((p || lies a b i) || lies c d i) ≡ (p || lies a d i)
lies-both p a b c d i h k l =
    by-run c d i (λ t. ((p || lies a b i) || t) ≡ (p || lies a d i))
    (λ low high. or-true (p || lies a b i) true refl ∙ sym (or-true p (lies a d i) (lies-in a d i (omega arith) high)))
    (λ low. or-false (p || lies a b i) false refl ∙ ap (λ t. p || t) (ap (λ t. nat_le a i && t) (lt-ltb i b (omega arith) ∙ sym (lt-ltb i d (omega arith)))))
    (λ high. or-false (p || lies a b i) false refl ∙ ap (λ t. p || t) (lies-above a b i (omega arith) ∙ sym (lies-above a d i high)))

-- the span of rule n
abbrev pub span_of : List Span → ℕ → Span
span_of spans n = get_or spans n no_span

abbrev pub end_of : List Span → ℕ → ℕ
end_of spans n = (span_of spans n).first + (span_of spans n).count

-- the spans of a run of rules begin in order
pub chain-order : (spans : List Span) (n m : ℕ) → AreChained spans → n + m < length spans → (span_of spans n).first ≤ (span_of spans (n + m)).first
chain-order spans n zero chain h = let e : n + 0 ≡ n = add-zero n in omega (arith, ap (λ k. (span_of spans k).first) e)
chain-order spans n (suc m) chain h =
    let e : (n + m) + 1 ≡ n + suc m = omega arith in
    omega (arith, chain-order spans n m chain (omega arith), chain.low (n + m) no_span (omega arith), ap (λ k. (span_of spans k).first) e)

one-more : (spans : List Span) (row : List Bool) (n r : ℕ) → length row ≡ length spans → n < length spans → at row n ≡ true
    → reached_by spans row (n + 1) r ≡ (reached_by spans row n r || lies (span_of spans n).first (end_of spans n) r)
one-more spans row n r long within set = sym (refill-set spans row r n no_span (reached_by spans row n r) (reached_by spans row n r || lies (span_of spans n).first (end_of spans n) r) within long set refl refl)

-- what a run of matched rules reaches
run-reached : (spans : List Span) (row : List Bool) (n m r : ℕ) → AreChained spans → length row ≡ length spans → n + m < length spans → ((k : ℕ) → n ≤ k → k ≤ n + m → at row k ≡ true)
    → reached_by spans row (n + m + 1) r ≡ (reached_by spans row n r || lies (span_of spans n).first (end_of spans (n + m)) r)
run-reached spans row n zero r chain long within set =
    let e : n + 0 ≡ n = add-zero n in
    ap (λ k. reached_by spans row (k + 1) r) e ∙ one-more spans row n r long (omega arith) (set n (omega arith) (omega arith))
    ∙ ap (λ k. reached_by spans row n r || lies (span_of spans n).first (end_of spans k) r) (sym e)
run-reached spans row n (suc m) r chain long within set =
    let e : (n + m) + 1 ≡ n + suc m = omega arith in
    let here = one-more spans row (n + m + 1) r long (omega arith) (set (n + m + 1) (omega arith) (omega arith)) in
    let before = run-reached spans row n m r chain long (omega arith) (λ k a b. set k a (omega arith)) in
    let low = chain.low (n + m) no_span (omega arith) in
    let near = chain.near (n + m) no_span (omega arith) in
    let high = chain.high (n + m) no_span (omega arith) in
    let first = chain-order spans n m chain (omega arith) in
    ap (λ k. reached_by spans row (k + 1) r) (sym e) ∙ here
    ∙ ap (λ t. t || lies (span_of spans (n + m + 1)).first (end_of spans (n + m + 1)) r) before
    ∙ lies-both (reached_by spans row n r) (span_of spans n).first (end_of spans (n + m)) (span_of spans (n + m + 1)).first (end_of spans (n + m + 1)) r (omega arith) near high
    ∙ ap (λ k. reached_by spans row n r || lies (span_of spans n).first (end_of spans k) r) e

-- a run of matched rules sets the rules from the first one's to the last one's
pub filled-run : (spans : List Span) (row : List Bool) (n m count : ℕ) (old new : List Bool) → AreChained spans → length row ≡ length spans → n + m < length spans → ((k : ℕ) → n ≤ k → k ≤ n + m → at row k ≡ true)
    → (span_of spans n).first + count ≡ end_of spans (n + m) → end_of spans (n + m) ≤ length old → new ≡ with_run old (span_of spans n).first count
    → IsFilled spans row n old → IsFilled spans row (n + m + 1) new
filled-run spans row n m count old new chain long within set ends inside made filled = record {
  places = λ r.
      ap (λ xs. at xs r) made ∙ at-run old (span_of spans n).first count r (omega arith)
      ∙ ap (λ t. t || lies (span_of spans n).first ((span_of spans n).first + count) r) (filled.places r)
      ∙ ap (λ e. reached_by spans row n r || lies (span_of spans n).first e r) ends
      ∙ sym (run-reached spans row n m r chain long within set);
}

-- the first and the last span of a run of rules of a word, and what they say of the whole run
pub record AreRunSpans (spans : List Span) (i k end : ℕ) (first last : Span) : Type 0 where
  pub low : first.first ≡ (span_of spans (64 * i + k)).first
  pub high : last.first + last.count ≡ end_of spans (64 * i + (end - 1))
  pub order : first.first ≤ last.first
  pub inside : 64 * i + (end - 1) < length spans

pub run-spans : (spans part : List Span) (i word k end : ℕ) → AreChained spans → part ≡ word_of i spans → IsWithinRules (length spans) i word → IsRunEnd word k end → AreRunSpans spans i k end (get_or part k no_span) (get_or part (end - 1) no_span)
run-spans spans part i word k end chain is rules run =
    let some = run.some in
    let fits = run.within in
    let low : get_or part k no_span ≡ span_of spans (64 * i + k) = word-read spans part i k no_span is (omega arith) in
    let high : get_or part (end - 1) no_span ≡ span_of spans (64 * i + (end - 1)) = word-read spans part i (end - 1) no_span is (omega arith) in
    let inside = rules.rule (end - 1) (omega arith) (run.set (end - 1) (omega arith) (omega arith)) in
    let e : (64 * i + k) + (end - 1 - k) ≡ 64 * i + (end - 1) = omega arith in
    let order = chain-order spans (64 * i + k) (end - 1 - k) chain (omega arith) in
    record {
      low = ap (λ s. s.first) low;
      high = ap (λ s. s.first + s.count) high;
      order = omega (arith, ap (λ s. s.first) low, ap (λ s. s.first) high, ap (λ n. (span_of spans n).first) e, order);
      inside = inside;
    }

-- one more run of set bits of a word, up to bit `end`
pub filled-bits : (spans : List Span) (row : List Bool) (i word from k end count : ℕ) (old new : List Bool) → AreChained spans → length row ≡ length spans → IsWordOf row i word → IsNextBit word from k → IsRunEnd word k end
    → 64 * i + (end - 1) < length spans
    → (span_of spans (64 * i + k)).first + count ≡ end_of spans (64 * i + (end - 1)) → end_of spans (64 * i + (end - 1)) ≤ length old
    → new ≡ with_run old (span_of spans (64 * i + k)).first count
    → IsFilled spans row (64 * i + from) old → IsFilled spans row (64 * i + end) new
filled-bits spans row i word from k end count old new chain long is next run within ends inside made filled =
    let low = next.from_on in
    let some = run.some in
    let fits = run.within in
    let a : 64 * i + (end - 1) ≡ (64 * i + k) + (end - 1 - k) = omega arith in
    let b : (64 * i + k) + (end - 1 - k) + 1 ≡ 64 * i + end = omega arith in
    let gap = filled-skip spans row (64 * i + from) (64 * i + k) old long (omega arith) (λ p x y. unset p x y) filled in
    subst (λ n. IsFilled spans row n new) b
    (filled-run spans row (64 * i + k) (end - 1 - k) count old new chain long (omega arith) (λ p x y. set p x y) (ends ∙ ap (end_of spans) a) (omega (arith, ap (end_of spans) a)) made gap) where
      unset : (p : ℕ) → 64 * i + from ≤ p → p < 64 * i + k → at row p ≡ false
      unset p x y =
          let h = next.within in
          let e : 64 * i + (p - 64 * i) ≡ p = omega arith in
          ap (at row) (sym e) ∙ sym (is.bits (p - 64 * i) (omega arith)) ∙ next.least (p - 64 * i) (omega arith) (omega arith)

      set : (p : ℕ) → 64 * i + k ≤ p → p ≤ (64 * i + k) + (end - 1 - k) → at row p ≡ true
      set p x y =
          let u = run.some in
          let v = run.within in
          let e : 64 * i + (p - 64 * i) ≡ p = omega arith in
          ap (at row) (sym e) ∙ sym (is.bits (p - 64 * i) (omega arith)) ∙ run.set (p - 64 * i) (omega arith) (omega arith)

-- the rest of a word
pub filled-rest : (spans : List Span) (row : List Bool) (i word from : ℕ) (next : List Bool) → length row ≡ length spans → IsWordOf row i word → from ≤ 64
    → ((k : ℕ) → from ≤ k → k < 64 → bit word k ≡ false) → IsFilled spans row (64 * i + from) next → IsFilled spans row (64 * (i + 1)) next
filled-rest spans row i word from next long is low none filled =
    filled-skip spans row (64 * i + from) (64 * (i + 1)) next long (omega arith) unset filled where
      unset : (p : ℕ) → 64 * i + from ≤ p → p < 64 * (i + 1) → at row p ≡ false
      unset p a b =
          let e : 64 * i + (p - 64 * i) ≡ p = omega arith in
          ap (at row) (sym e) ∙ sym (is.bits (p - 64 * i) (omega arith)) ∙ none (p - 64 * i) (omega arith) (omega arith)

-- all rules
pub filled-all : (spans : List Span) (row : List Bool) (n : ℕ) (next : List Bool) → length row ≡ length spans → length spans ≤ n → IsFilled spans row n next → next ≡ refilled spans row (length next)
filled-all spans row n next long past filled = fill_by_all (reached spans row) next (length next) false refl (λ r l. filled.places r ∙ past-all spans row n r long past)

pub inside-more : (spans : List Span) (n m : ℕ) → m ≡ n → All (λ s. s.first + s.count ≤ n) spans → All (λ s. s.first + s.count ≤ m) spans
inside-more spans n m e inside = rw e inside
