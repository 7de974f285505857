-- The tops above the pages of marks.
use Rattle.std.proofs.Common.{◌≡◌, refl, sym, ◌∙◌, ap, subst, ℕ, ◌+◌, ◌*◌, ◌/◌, ◌%◌, ◌^◌, ◌<◌, ◌≤◌, ◌⊎◌, inl, inr, true, false, not, ◌==◌, List, [], ◌∷◌, ◌++◌, length, get_or, replicate, set, arith}
use Rattle.std.specs.Prelude.{slice_index}
use Rattle.std.proofs.lemmas.Bool.{cases_lt, cases_eq}
use Rattle.std.proofs.lemmas.List.{get_or_push, length_push, get_or_append_left, get_or-set_same, get_or-set_other, length-set, get_or_default, length-replicate}
use Rattle.bit_rows.specs.Row.{Row, bit}
use Rattle.bit_rows.proofs.Bits.{bit-zero}
use Rattle.shared_pages.specs.Paged.{PageOf, owns_of}
use Rattle.word_summary.specs.Marks.{IsMarkPage, IsPageMarked, ClearsNone}
use Rattle.word_summary.proofs.MarkLaws.{shares}
use Rattle.lookup_table.specs.Lines.{words_at}
use Rattle.lookup_table.specs.Summary.{agrees_at, HasMarks, ArePages, IsSummed, IsRenewed, AreRenewed}
use Rattle.lookup_table.proofs.SummaryLaws.{no-marks, summed-weaker, pages-push}

-- ---- the mark of one page

-- a line with a mark isn't empty
marked-line : (word i : ℕ) → bit word i ≡ true → not (word == 0) ≡ true
marked-line word i set = shares word (λ none. go (sym (bit-zero i) ∙ sym (ap (λ x. bit x i) none) ∙ set)) where
  go : false ≡ true → ⊥
  go e = absurd (cc e)

-- by the page
pub page-renewed : (p : ℕ) (pages : List (PageOf ℕ)) (lines old new : List ℕ) → p < length pages → lines ≡ words_at pages p → length lines ≡ length old → IsPageMarked (p % 64) (length lines) lines old new → IsRenewed p pages old new
page-renewed p pages lines old new inside is long marked = record {
  long = marked.long;
  mark = λ j i h m set.
      let l = marked.long in
      let there : bit (slice_index lines j) i ≡ true = ap (λ x. bit (slice_index x j) i) is ∙ set inside in
      marked.here j (omega arith) ∙ marked-line (slice_index lines j) i there;
  others = λ j k h differs set. marked.others j k h differs ∙ set;
}

-- in all lines
pub run-renewed : (p n : ℕ) (pages : List (PageOf ℕ)) (old new : List ℕ) → n ≡ length old → ClearsNone old new → ((j : ℕ) → 0 ≤ j → j < n → bit (slice_index new j) (p % 64) ≡ true) → IsRenewed p pages old new
run-renewed p n pages old new e kept set = record {
  long = kept.long;
  mark = λ j i h m some. let l = kept.long in set j (omega arith) (omega arith);
  others = λ j k h differs there. kept.marks j k there;
}

-- ---- the marks of all pages

pub renewed-none : (p : ℕ) (pages tops : List (PageOf ℕ)) → AreRenewed p p pages tops tops
renewed-none p pages tops = record { long = refl; sizes = λ q. refl; marks = λ n j i l h inside line m set. absurd (omega arith); before = λ n j h set. set }

pub renewed-both : (from p : ℕ) (pages old tops new : List (PageOf ℕ)) → from ≤ p → AreRenewed from p pages old tops → AreRenewed p (p + 1) pages tops new → AreRenewed from (p + 1) pages old new
renewed-both from p pages old tops new order first second = record {
  long = second.long ∙ first.long;
  sizes = λ q. second.sizes q ∙ first.sizes q;
  marks = λ n j i l h inside line m set. go n j i l h inside line m set (cases_lt n p);
  before = λ n j h set. second.before n j (omega arith) (first.before n j h set);
} where
  go : (n j i : ℕ) → from ≤ n → n < p + 1 → n / 64 < length new → j < length (words_at new (n / 64)) → i < 64 → (n < length pages → bit (slice_index (words_at pages n) j) i ≡ true) → (n < p) ⊎ (p ≤ n)
      → bit (slice_index (words_at new (n / 64)) j) (n % 64) ≡ true
  go n j i l h inside line m set (inl a) =
      let long = second.long in
      let size = second.sizes (n / 64) in
      second.before n j a (first.marks n j i l a (omega arith) (omega arith) m set)
  go n j i l h inside line m set (inr a) = second.marks n j i a h inside line m set

-- a page that has no top
pub no-top : (p : ℕ) (pages tops : List (PageOf ℕ)) → length tops ≤ p / 64 → AreRenewed p (p + 1) pages tops tops
no-top p pages tops past = record {
  long = refl;
  sizes = λ q. refl;
  marks = λ n j i l h inside line m set. let same : n ≡ p = omega arith in let low : n / 64 ≡ p / 64 = ap (λ x. x / 64) same in absurd (omega arith);
  before = λ n j h set. set;
}

-- a page's top
pub top-renewed : (p : ℕ) (pages tops : List (PageOf ℕ)) (top new : PageOf ℕ) → p / 64 < length tops → top ≡ get_or tops (p / 64) top → IsRenewed p pages top.items new.items → AreRenewed p (p + 1) pages tops (set tops (p / 64) new)
top-renewed p pages tops top new inside e renewed = record {
  long = length-set tops (p / 64) new;
  sizes = λ q. sizes q (cases_eq q (p / 64));
  marks = λ n j i l h within line m some. let same : n ≡ p = omega arith in marks n j i same line m some;
  before = λ n j h some. before n j h some (cases_eq (n / 64) (p / 64));
} where
  there : (q : ℕ) → q ≡ p / 64 → words_at (set tops (p / 64) new) q ≡ new.items
  there q same = ap (words_at (set tops (p / 64) new)) same ∙ ap (λ (m : PageOf ℕ). m.items) (get_or-set_same tops (p / 64) new _ inside)

  was : (q : ℕ) → q ≡ p / 64 → words_at tops q ≡ top.items
  was q same = ap (words_at tops) same ∙ sym (ap (λ (m : PageOf ℕ). m.items) (e ∙ get_or_default tops (p / 64) top _ inside))

  other : (q : ℕ) → (q ≡ p / 64 → ⊥) → words_at (set tops (p / 64) new) q ≡ words_at tops q
  other q differs = ap (λ (m : PageOf ℕ). m.items) (get_or-set_other tops (p / 64) q new _ differs)

  sizes : (q : ℕ) → (q ≡ p / 64) ⊎ (q ≡ p / 64 → ⊥) → length (words_at (set tops (p / 64) new) q) ≡ length (words_at tops q)
  sizes q (inl same) = ap length (there q same) ∙ renewed.long ∙ ap length (sym (was q same))
  sizes q (inr differs) = ap length (other q differs)

  marks : (n j i : ℕ) → n ≡ p → j < length (words_at (set tops (p / 64) new) (n / 64)) → i < 64 → (n < length pages → bit (slice_index (words_at pages n) j) i ≡ true) → bit (slice_index (words_at (set tops (p / 64) new) (n / 64)) j) (n % 64) ≡ true
  marks n j i same line m some =
      let at = there (n / 64) (ap (λ x. x / 64) same) in
      let some_p : p < length pages → bit (slice_index (words_at pages p) j) i ≡ true = subst (λ x. x < length pages → bit (slice_index (words_at pages x) j) i ≡ true) same some in
      ap (λ x. bit (slice_index x j) (n % 64)) at ∙ ap (λ x. bit (slice_index new.items j) (x % 64)) same ∙ renewed.mark j i (subst (λ (x : List ℕ). j < length x) at line) m some_p

  before : (n j : ℕ) → n < p → bit (slice_index (words_at tops (n / 64)) j) (n % 64) ≡ true → (n / 64 ≡ p / 64) ⊎ (n / 64 ≡ p / 64 → ⊥) → bit (slice_index (words_at (set tops (p / 64) new) (n / 64)) j) (n % 64) ≡ true
  before n j h some (inl same) =
      ap (λ x. bit (slice_index x j) (n % 64)) (there (n / 64) same)
      ∙ renewed.others j (n % 64) (omega arith) (λ f. absurd (omega arith)) (ap (λ x. bit (slice_index x j) (n % 64)) (sym (was (n / 64) same)) ∙ some)
  before n j h some (inr differs) = ap (λ x. bit (slice_index x j) (n % 64)) (other (n / 64) differs) ∙ some

pub pages-renewed : (bits from to : ℕ) (pages old new : List (PageOf ℕ)) → AreRenewed from to pages old new → ArePages bits old → ArePages bits new
pages-renewed bits from to pages old new renewed are = record { each = λ q h. let l = renewed.long in record { long = renewed.sizes q ∙ (are.each q (omega arith)).long } }

-- ---- tops with the marks of all rules

-- tops whose pages before page `from` had them
pub summed-renewed : (width bits n m from to : ℕ) (buckets : List Row) (pages old new : List (PageOf ℕ)) → n ≤ 4096 * to → ((r : ℕ) → r < n → r / 4096 < from → r < m) → IsSummed 64 width bits n buckets pages
    → IsSummed 4096 width bits m buckets old → AreRenewed from to pages old new → IsSummed 4096 width bits n buckets new
summed-renewed width bits n m from to buckets pages old new within front summed topped renewed = record {
  few = let l = renewed.long in let f = topped.few in omega arith;
  each = λ q h. let l = renewed.long in one q h (topped.each q (omega arith));
} where
  one : (q : ℕ) → q < length new → HasMarks 4096 width bits m buckets q (words_at old q) → HasMarks 4096 width bits n buckets q (words_at new q)
  one q h has = record { long = renewed.sizes q ∙ has.long; marks = λ j r a b e agree. go j r a b e agree (cases_lt (r / 4096) from) } where
    size : length (words_at new q) ≡ bits / 8 * 256
    size = renewed.sizes q ∙ has.long

    go : (j r : ℕ) → j < bits / 8 * 256 → r < n → r / 4096 / 64 ≡ q → agrees_at width buckets j r ≡ true → (r / 4096 < from) ⊎ (from ≤ r / 4096) → bit (slice_index (words_at new q) j) (r / 4096 % 64) ≡ true
    go j r a b e agree (inl l) =
        ap (λ x. bit (slice_index (words_at new x) j) (r / 4096 % 64)) (sym e)
        ∙ renewed.before (r / 4096) j l (ap (λ x. bit (slice_index (words_at old x) j) (r / 4096 % 64)) e ∙ has.marks j r a (front r b l) e agree)
    go j r a b e agree (inr l) =
        let inside : r / 4096 / 64 < length new = rw e h in
        let line : j < length (words_at new (r / 4096 / 64)) = rw e (omega (arith, size)) in
        let page : r / 64 / 64 ≡ r / 4096 = omega arith in
        ap (λ x. bit (slice_index (words_at new x) j) (r / 4096 % 64)) (sym e)
        ∙ renewed.marks (r / 4096) j (r / 64 % 64) l (omega arith) inside line (omega arith) (λ there. (summed.each (r / 4096) there).marks j r a b page agree)

pub pages-pushed : (bits : ℕ) (tops : List (PageOf ℕ)) (top : PageOf ℕ) → top.items ≡ replicate (bits / 8 * 256) 0 → ArePages bits tops → ArePages bits (tops ++ top ∷ [])
pages-pushed bits tops top empty are = record { each = λ q h. go q h (cases_lt q (length tops)) } where
  go : (q : ℕ) → q < length (tops ++ top ∷ []) → (q < length tops) ⊎ (length tops ≤ q) → IsMarkPage bits (words_at (tops ++ top ∷ []) q)
  go q h (inl l) = subst (IsMarkPage bits) (sym (ap (λ (m : PageOf ℕ). m.items) (get_or_append_left tops (top ∷ []) _ q l))) (are.each q l)
  go q h (inr l) =
      let e : length tops ≡ q = omega (arith, length_push tops top) in
      record { long = ap (λ (m : PageOf ℕ). length m.items) (get_or_push tops top _ q e) ∙ ap length empty ∙ length-replicate (bits / 8 * 256) 0 }

-- one more top, which is empty until its pages are marked
pub top-added : (width bits n to : ℕ) (buckets : List Row) (pages tops new : List (PageOf ℕ)) (top : PageOf ℕ) → n ≤ 4096 * to → length tops < 2 ^ 26 → top.items ≡ replicate (bits / 8 * 256) 0
    → AreRenewed (64 * length tops) to pages (tops ++ top ∷ []) new → IsSummed 64 width bits n buckets pages → IsSummed 4096 width bits n buckets tops → IsSummed 4096 width bits n buckets new
top-added width bits n to buckets pages tops new top within small empty renewed summed topped = go (cases_lt n (262144 * length tops)) where
  by : (m : ℕ) → m ≤ n → m ≤ 262144 * length tops → ((r : ℕ) → r < n → r < 262144 * length tops → r < m) → IsSummed 4096 width bits n buckets new
  by m le low all =
      summed-renewed width bits n m (64 * length tops) to buckets pages (tops ++ top ∷ []) new within (λ r h l. all r h (omega arith)) summed
      (pages-push 4096 width bits m buckets tops top small (no-marks 4096 width bits m (length tops) buckets top.items empty (λ r h e. absurd (omega arith))) (summed-weaker 4096 width bits n m buckets tops le topped))
      renewed

  go : (n < 262144 * length tops) ⊎ (262144 * length tops ≤ n) → IsSummed 4096 width bits n buckets new
  go (inl l) = by n (omega arith) (omega arith) (λ r h m. h)
  go (inr l) = by (262144 * length tops) l (omega arith) (λ r h m. m)

-- ---- who owns them

-- the tops above the pages of the rules that move down
pub own-tops : (tops : List (PageOf ℕ)) (first rules p : ℕ) → ((r : ℕ) → first ≤ r → r < rules → get_or (owns_of tops) (r / 262144) true ≡ true) → first < rules → first / 4096 ≤ p → 4096 * p < rules
    → get_or (owns_of tops) (p / 64) true ≡ true
own-tops tops first rules p own some low high = go (cases_lt (4096 * p) first) where
  go : (4096 * p < first) ⊎ (first ≤ 4096 * p) → get_or (owns_of tops) (p / 64) true ≡ true
  go (inl l) = let at : first / 262144 ≡ p / 64 = omega arith in ap (λ k. get_or (owns_of tops) k true) (sym at) ∙ own first (omega arith) some
  go (inr l) = let at : 4096 * p / 262144 ≡ p / 64 = omega arith in ap (λ k. get_or (owns_of tops) k true) (sym at) ∙ own (4096 * p) l high
