-- Words of pages that are written one by one, and what this does to the rows.
use Rattle.std.proofs.Common.{◌≡◌, refl, sym, ◌∙◌, ap, ℕ, zero, suc, ◌+◌, ◌-◌, ◌*◌, ◌/◌, ◌%◌, ◌<◌, ◌≤◌, ◌⊎◌, inl, inr, [], ◌∷◌, Bool, true, false, cond, ◌&&◌, ◌||◌, nat_lt, List, length, get_or, take, drop, set, replicate, arith}
use Rattle.std.specs.Prelude.{slice_index}
use Rattle.std.proofs.lemmas.Bool.{cases_lt, cases_eq, lt-ltb, le-ltb, le-leb, lt-leb, cond-true, cond-false}
use Rattle.std.proofs.lemmas.List.{get_or-set_same, get_or-set_other, length-set, get_or_default, get_or_past, ext_get_or, length-append, length-take, length-drop, length-replicate, get_or-replicate}
use Rattle.set_model.specs.Runs.{without_run}
use Rattle.bit_rows.specs.Row.{Row, at, bit, both, either, IsWordPut}
use Rattle.bit_rows.proofs.Rows.{at-both, length-both, at-either, length-either}
use Rattle.shared_pages.specs.Paged.{PageOf, owns_of}
use Rattle.lookup_table.specs.Table.{bucket_at, cell}
use Rattle.lookup_table.specs.Rows.{Each, IsClosedUp, IsPut}
use Rattle.lookup_table.specs.Lines.{words_at, line_bit, row_in, rows_of, AreLines, HasLine, IsAlike, IsWordWritten, IsLinePut, closed_bit, IsWordClosed, AreClosed}
use Rattle.lookup_table.proofs.LineLaws.{own-there, rows-length, row-at, line-length, line-spare, line-within, bit-read, word-read, sized-lines, bits-equal}
use Rattle.lookup_table.proofs.RowsLaws.{cell-is}
use Rattle.lookup_table.proofs.RuleLaws.{at-without}

-- ---- who owns the pages

pub owns-same : (pages : List (PageOf ℕ)) (p : ℕ) (m n : PageOf ℕ) → m ≡ get_or pages p m → n.own ≡ m.own → owns_of (set pages p n) ≡ owns_of pages
owns-same [] p m n e f = refl
owns-same (l ∷ ls) zero m n e f = ap (λ o. o ∷ owns_of ls) (f ∙ ap (λ (x : PageOf ℕ). x.own) e)
owns-same (l ∷ ls) (suc p) m n e f = ap (λ os. l.own ∷ os) (owns-same ls p m n e f)

pub own-page : (pages : List (PageOf ℕ)) (p : ℕ) (m : PageOf ℕ) → p < length pages → m ≡ get_or pages p m → get_or (owns_of pages) p true ≡ true → m.own ≡ true
own-page pages p m h e own = ap (λ (x : PageOf ℕ). x.own) e ∙ sym (own-there pages p m true h) ∙ own

pub alike-none : (pages : List (PageOf ℕ)) → IsAlike pages pages
alike-none pages = record { long = refl; sizes = λ p. refl; own = refl }

pub alike-both : (a b c : List (PageOf ℕ)) → IsAlike a b → IsAlike b c → IsAlike a c
alike-both a b c x y = record { long = y.long ∙ x.long; sizes = λ p. y.sizes p ∙ x.sizes p; own = y.own ∙ x.own }

pub alike-line : (j : ℕ) (old new : List (PageOf ℕ)) → IsAlike old new → HasLine j old → HasLine j new
alike-line j old new alike has = record { line = λ p h. let l = alike.long in let s = alike.sizes p in let x = has.line p (omega arith) in omega arith }

-- ---- one word

pub written : (pages : List (PageOf ℕ)) (p x word : ℕ) (m n : PageOf ℕ) → p < length pages → m ≡ get_or pages p m → m.own ≡ true → x < length m.items
    → n.items ≡ set m.items x word → n.own ≡ true → IsWordWritten p x word pages (set pages p n)
written pages p x word m n h e own within items kept = record {
  alike = record { long = length-set pages p n; sizes = λ q. sizes q (cases_eq q p); own = owns-same pages p m n e (kept ∙ sym own) };
  here = ap (λ ws. slice_index ws x) (there p refl) ∙ get_or-set_same m.items x word 0 within;
  others = λ q y out. others q y out (cases_eq q p);
} where
  there : (q : ℕ) → q ≡ p → words_at (set pages p n) q ≡ set m.items x word
  there q same = ap (words_at (set pages p n)) same ∙ ap (λ (a : PageOf ℕ). a.items) (get_or-set_same pages p n _ h) ∙ items

  before : (q : ℕ) → q ≡ p → words_at pages q ≡ m.items
  before q same = ap (words_at pages) same ∙ sym (ap (λ (a : PageOf ℕ). a.items) (e ∙ get_or_default pages p m _ h))

  sizes : (q : ℕ) → (q ≡ p) ⊎ (q ≡ p → ⊥) → length (words_at (set pages p n) q) ≡ length (words_at pages q)
  sizes q (inl same) = ap length (there q same) ∙ length-set m.items x word ∙ ap length (sym (before q same))
  sizes q (inr differs) = ap (λ (a : PageOf ℕ). length a.items) (get_or-set_other pages p q n _ differs)

  others : (q y : ℕ) → (q ≡ p → y ≡ x → ⊥) → (q ≡ p) ⊎ (q ≡ p → ⊥) → slice_index (words_at (set pages p n) q) y ≡ slice_index (words_at pages q) y
  others q y out (inl same) = ap (λ ws. slice_index ws y) (there q same) ∙ get_or-set_other m.items x y word 0 (out same) ∙ ap (λ ws. slice_index ws y) (sym (before q same))
  others q y out (inr differs) = ap (λ (a : PageOf ℕ). slice_index a.items y) (get_or-set_other pages p q n _ differs)

written-here : (p x word j r : ℕ) (old new : List (PageOf ℕ)) → IsWordWritten p x word old new → r / 512 ≡ p → j * 8 + r % 512 / 64 ≡ x → line_bit new j r ≡ bit word (r % 64)
written-here p x word j r old new w e f =
    bit-read new j r ∙ ap (λ q. bit (slice_index (words_at new q) (j * 8 + r % 512 / 64)) (r % 64)) e ∙ ap (λ y. bit (slice_index (words_at new p) y) (r % 64)) f ∙ ap (λ v. bit v (r % 64)) w.here

others-bit : (p x j r : ℕ) (old new : List (PageOf ℕ)) → ((q y : ℕ) → (q ≡ p → y ≡ x → ⊥) → slice_index (words_at new q) y ≡ slice_index (words_at old q) y) → (r / 512 ≡ p → j * 8 + r % 512 / 64 ≡ x → ⊥)
    → line_bit new j r ≡ line_bit old j r
others-bit p x j r old new others out = bit-read new j r ∙ ap (λ v. bit v (r % 64)) (others (r / 512) (j * 8 + r % 512 / 64) out) ∙ sym (bit-read old j r)

-- ---- a row that is written over

-- the first i words of line j are those of the bits, and the rest is as it was
pub record LinePut (count j i : ℕ) (bits : List Bool) (old now : List (PageOf ℕ)) : Type 0 where
  pub alike : IsAlike old now
  pub done : (r : ℕ) → r < 64 * i → line_bit now j r ≡ at bits r
  pub rest : (r : ℕ) → 64 * i ≤ r → line_bit now j r ≡ line_bit old j r
  pub others : (k r : ℕ) → k < count → (k ≡ j → ⊥) → line_bit now k r ≡ line_bit old k r

pub put-none : (count j : ℕ) (bits : List Bool) (pages : List (PageOf ℕ)) → LinePut count j 0 bits pages pages
put-none count j bits pages = record { alike = alike-none pages; done = λ r h. absurd (omega arith); rest = λ r h. refl; others = λ k r h d. refl }

pub put-more : (count j i word : ℕ) (bits : List Bool) (old now new : List (PageOf ℕ)) → j < count → ((k : ℕ) → k < 64 → bit word k ≡ at bits (64 * i + k)) → IsWordWritten (i / 8) (j * 8 + i % 8) word now new
    → LinePut count j i bits old now → LinePut count j (i + 1) bits old new
put-more count j i word bits old now new h reads w so_far = record {
  alike = alike-both old now new so_far.alike w.alike;
  done = λ r l. done r l (cases_lt r (64 * i));
  rest = λ r l. others-bit (i / 8) (j * 8 + i % 8) j r now new w.others (λ a b. absurd (omega arith)) ∙ so_far.rest r (omega arith);
  others = λ k r l d. others-bit (i / 8) (j * 8 + i % 8) k r now new w.others (λ a b. d (omega arith)) ∙ so_far.others k r l d;
} where
  done : (r : ℕ) → r < 64 * (i + 1) → (r < 64 * i) ⊎ (64 * i ≤ r) → line_bit new j r ≡ at bits r
  done r l (inl a) = others-bit (i / 8) (j * 8 + i % 8) j r now new w.others (λ x y. absurd (omega arith)) ∙ so_far.done r a
  done r l (inr a) =
      let whole : 64 * i + r % 64 ≡ r = omega arith in
      written-here (i / 8) (j * 8 + i % 8) word j r now new w (omega arith) (omega arith) ∙ reads (r % 64) (omega arith) ∙ ap (at bits) whole

pub put-all : (count j i : ℕ) (bits : List Bool) (old new : List (PageOf ℕ)) → length bits ≤ 64 * i → LinePut count j i bits old new → IsLinePut count j bits old new
put-all count j i bits old new far so_far = record {
  alike = so_far.alike;
  here = λ r h. so_far.done r (omega arith);
  rest = λ r h none. rest r h none (cases_lt r (64 * i));
  others = so_far.others;
} where
  rest : (r : ℕ) → length bits ≤ r → line_bit old j r ≡ false → (r < 64 * i) ⊎ (64 * i ≤ r) → line_bit new j r ≡ false
  rest r h none (inl l) = so_far.done r l ∙ get_or_past bits r false h
  rest r h none (inr l) = so_far.rest r l ∙ none

pub put-lines : (count len j : ℕ) (bits : List Bool) (old new : List (PageOf ℕ)) → length bits ≡ len → AreLines count len old → IsLinePut count j bits old new → AreLines count len new
put-lines count len j bits old new long are put =
    sized-lines old new count len len are put.alike.long put.alike.sizes (let w = are.within in let l = put.alike.long in omega arith) (λ k r h l. past k r h l (cases_eq k j)) where
      past : (k r : ℕ) → k < count → len ≤ r → (k ≡ j) ⊎ (k ≡ j → ⊥) → line_bit new k r ≡ false
      past k r h l (inl same) = ap (λ m. line_bit new m r) same ∙ put.rest r (omega arith) (ap (λ m. line_bit old m r) (sym same) ∙ are.past k r h l)
      past k r h l (inr differs) = put.others k r h differs ∙ are.past k r h l

pub put-rows : (count len j : ℕ) (bits : List Bool) (old new : List (PageOf ℕ)) → length bits ≡ len → j < count → IsLinePut count j bits old new → IsPut j bits (rows_of old len count) (rows_of new len count)
put-rows count len j bits old new long line_in put = record {
  size = record {
    long = rows-length new len count ∙ sym (rows-length old len count);
    bits = λ k. lengths k (cases_lt k count);
    spare = λ k. spares k (cases_lt k count);
  };
  row = ap (λ (x : Row). x.bits) (row-at new len count j line_in) ∙ same_bits;
  others = λ k d. others k d (cases_lt k count);
} where
  same_bits : (row_in new len j).bits ≡ bits
  same_bits = ext_get_or false (row_in new len j).bits bits (line-length new len j ∙ sym long)
      (λ r h. let l : r < len = omega (arith, line-length new len j) in line-within new len j r l ∙ put.here r (omega arith))

  beyond : (ps : List (PageOf ℕ)) (k : ℕ) → count ≤ k → bucket_at (rows_of ps len count) k ≡ record { bits = []; spare = 0 }
  beyond ps k h = get_or_past (rows_of ps len count) k _ (omega (arith, rows-length ps len count))

  lengths : (k : ℕ) → (k < count) ⊎ (count ≤ k) → length (bucket_at (rows_of new len count) k).bits ≡ length (bucket_at (rows_of old len count) k).bits
  lengths k (inl h) = ap (λ (x : Row). length x.bits) (row-at new len count k h) ∙ line-length new len k ∙ sym (line-length old len k) ∙ ap (λ (x : Row). length x.bits) (sym (row-at old len count k h))
  lengths k (inr h) = ap (λ (x : Row). length x.bits) (beyond new k h ∙ sym (beyond old k h))

  spares : (k : ℕ) → (k < count) ⊎ (count ≤ k) → (bucket_at (rows_of new len count) k).spare ≡ (bucket_at (rows_of old len count) k).spare
  spares k (inl h) =
      ap (λ (x : Row). x.spare) (row-at new len count k h) ∙ line-spare new len k ∙ ap (λ n. 512 * n - len) put.alike.long
      ∙ sym (line-spare old len k) ∙ ap (λ (x : Row). x.spare) (sym (row-at old len count k h))
  spares k (inr h) = ap (λ (x : Row). x.spare) (beyond new k h ∙ sym (beyond old k h))

  others : (k : ℕ) → (k ≡ j → ⊥) → (k < count) ⊎ (count ≤ k) → (bucket_at (rows_of new len count) k).bits ≡ (bucket_at (rows_of old len count) k).bits
  others k d (inl h) = ap (λ (x : Row). x.bits) (row-at new len count k h) ∙ bits-equal old new len k (λ r l. put.others k r h d) ∙ ap (λ (x : Row). x.bits) (sym (row-at old len count k h))
  others k d (inr h) = ap (λ (x : Row). x.bits) (beyond new k h ∙ sym (beyond old k h))

-- ---- a row beside another, word by word

-- the first i words of the row are what the operation makes of both, and the rest is as it was
pub record Merged (op : Bool → Bool → Bool) (other old : List Bool) (i : ℕ) (row : Row) : Type 0 where
  pub long : length row.bits ≡ length old
  pub done : (r : ℕ) → r < 64 * i → r < length old → at row.bits r ≡ op (at old r) (at other r)
  pub rest : (r : ℕ) → 64 * i ≤ r → at row.bits r ≡ at old r

pub merged-none : (op : Bool → Bool → Bool) (other : List Bool) (row : Row) → Merged op other row.bits 0 row
merged-none op other row = record { long = refl; done = λ r h l. absurd (omega arith); rest = λ r h. refl }

pub merged-more : (op : Bool → Bool → Bool) (other old : List Bool) (i word : ℕ) (row new : Row) → ((k : ℕ) → k < 64 → bit word k ≡ op (at row.bits (64 * i + k)) (at other (64 * i + k))) → IsWordPut i word row.bits new.bits
    → Merged op other old i row → Merged op other old (i + 1) new
merged-more op other old i word row new made put so_far = record {
  long = put.long ∙ so_far.long;
  done = λ r h l. done r h l (cases_lt r (64 * i));
  rest = λ r h. put.others r (λ e. absurd (omega arith)) ∙ so_far.rest r (omega arith);
} where
  done : (r : ℕ) → r < 64 * (i + 1) → r < length old → (r < 64 * i) ⊎ (64 * i ≤ r) → at new.bits r ≡ op (at old r) (at other r)
  done r h l (inl a) = put.others r (λ e. absurd (omega arith)) ∙ so_far.done r a l
  done r h l (inr a) =
      let whole : 64 * i + r % 64 ≡ r = omega arith in
      ap (at new.bits) (sym whole) ∙ put.here (r % 64) (omega arith) ∙ made (r % 64) (omega arith) ∙ ap (λ n. op (at row.bits n) (at other n)) whole ∙ ap (λ t. op t (at other r)) (so_far.rest r a)

pub merged-both : (other old : List Bool) (i : ℕ) (row : Row) → length old ≡ length other → length old ≤ 64 * i → Merged (λ p q. p && q) other old i row → row.bits ≡ both old other
merged-both other old i row same far so_far =
    ext_get_or false row.bits (both old other) (so_far.long ∙ sym (length-both old other same))
    (λ r h. let l = so_far.long in so_far.done r (omega arith) (omega arith) ∙ sym (at-both old other r same (omega arith)))

pub merged-either : (other old : List Bool) (i : ℕ) (row : Row) → length old ≡ length other → length old ≤ 64 * i → Merged (λ p q. p || q) other old i row → row.bits ≡ either old other
merged-either other old i row same far so_far =
    ext_get_or false row.bits (either old other) (so_far.long ∙ sym (length-either old other same))
    (λ r h. let l = so_far.long in so_far.done r (omega arith) (omega arith) ∙ sym (at-either old other r same (omega arith)))

pub cell-bit : (rows : List Row) (j r : ℕ) → cell rows j r ≡ at (bucket_at rows j).bits r
cell-bit rows j r = cell-is rows j r

pub either-zeros : (bits : List Bool) → either (replicate (length bits) false) bits ≡ bits
either-zeros bits =
    let long = length-replicate (length bits) false in
    ext_get_or false (either (replicate (length bits) false) bits) bits (length-either (replicate (length bits) false) bits long ∙ long)
    (λ r h. let l : r < length bits = omega (arith, length-either (replicate (length bits) false) bits long) in
    at-either (replicate (length bits) false) bits r long (omega arith) ∙ ap (λ t. t || at bits r) (get_or-replicate (length bits) r false false l))

-- ---- places that are taken out

closed-before : (pages : List (PageOf ℕ)) (first n j r : ℕ) → r < first → closed_bit pages first n j r ≡ line_bit pages j r
closed-before pages first n j r h = cond-false _ (line_bit pages j (r + n)) (line_bit pages j r) (lt-leb first r h)

closed-behind : (pages : List (PageOf ℕ)) (first n j r : ℕ) → first ≤ r → closed_bit pages first n j r ≡ line_bit pages j (r + n)
closed-behind pages first n j r h = cond-true _ (line_bit pages j (r + n)) (line_bit pages j r) (le-leb first r h)

-- a word before the first place that is removed
pub word-before : (pages : List (PageOf ℕ)) (first n p x : ℕ) → p * 8 + x % 8 < first / 64 → IsWordClosed first n p x pages pages
word-before pages first n p x h = record {
  alike = alike-none pages;
  here = λ k l.
      let a : (512 * p + 64 * (x % 8) + k) / 512 ≡ p = omega arith in
      let i : 64 * (p * 8 + x % 8) + k ≡ 512 * p + 64 * (x % 8) + k = omega arith in
      let b : (p * 8 + x % 8) / 8 ≡ p = omega arith in
      let c : x / 8 * 8 + (p * 8 + x % 8) % 8 ≡ x = omega arith in
      sym (closed-before pages first n (x / 8) (512 * p + 64 * (x % 8) + k) (omega arith) ∙ ap (line_bit pages (x / 8)) (sym i) ∙ word-read pages (x / 8) (p * 8 + x % 8) k l
      ∙ ap (λ q. bit (slice_index (words_at pages q) (x / 8 * 8 + (p * 8 + x % 8) % 8)) k) b ∙ ap (λ y. bit (slice_index (words_at pages p) y) k) c);
  others = λ q y out. refl;
}

pub word-closed : (first n p x before moved word low : ℕ) (old new : List (PageOf ℕ)) → IsWordWritten p x word old new → first / 64 ≤ p * 8 + x % 8 → low ≡ first - 64 * (p * 8 + x % 8)
    → before ≡ slice_index (words_at old p) x
    → ((k : ℕ) → k < 64 → bit moved k ≡ line_bit old (x / 8) (64 * (p * 8 + x % 8) + n + k)) → ((k : ℕ) → k < 64 → bit word k ≡ cond (nat_lt k low) (bit before k) (bit moved k)) → IsWordClosed first n p x old new
word-closed first n p x before moved word low old new w above e was reads made = record {
  alike = w.alike;
  here = λ k h. ap (λ v. bit v k) w.here ∙ made k h ∙ go k h (cases_lt (64 * (p * 8 + x % 8) + k) first);
  others = w.others;
} where
  go : (k : ℕ) → k < 64 → (64 * (p * 8 + x % 8) + k < first) ⊎ (first ≤ 64 * (p * 8 + x % 8) + k) → cond (nat_lt k low) (bit before k) (bit moved k) ≡ closed_bit old first n (x / 8) (512 * p + 64 * (x % 8) + k)
  go k h (inl l) =
      let i : 64 * (p * 8 + x % 8) + k ≡ 512 * p + 64 * (x % 8) + k = omega arith in
      let page : (p * 8 + x % 8) / 8 ≡ p = omega arith in
      let word_is : x / 8 * 8 + (p * 8 + x % 8) % 8 ≡ x = omega arith in
      let there : before ≡ slice_index (words_at old ((p * 8 + x % 8) / 8)) (x / 8 * 8 + (p * 8 + x % 8) % 8) = rw (page, word_is) was in
      cond-true _ (bit before k) (bit moved k) (lt-ltb k low (omega arith)) ∙ ap (λ v. bit v k) there ∙ sym (word-read old (x / 8) (p * 8 + x % 8) k h) ∙ ap (line_bit old (x / 8)) i
      ∙ sym (closed-before old first n (x / 8) (512 * p + 64 * (x % 8) + k) (omega arith))
  go k h (inr l) =
      let i : 64 * (p * 8 + x % 8) + n + k ≡ 512 * p + 64 * (x % 8) + k + n = omega arith in
      cond-false _ (bit before k) (bit moved k) (le-ltb k low (omega arith)) ∙ reads k h ∙ ap (line_bit old (x / 8)) i
      ∙ sym (closed-behind old first n (x / 8) (512 * p + 64 * (x % 8) + k) (omega arith))

pub closed-none : (count first n : ℕ) (pages : List (PageOf ℕ)) → AreClosed count first n (first / 512) 0 pages pages
closed-none count first n pages = record {
  alike = alike-none pages;
  before = λ j r h l. sym (closed-before pages first n j r (omega arith));
  here = λ j r h e l. absurd (omega arith);
  rest = λ y h. refl;
  behind = λ q y h. refl;
}

-- a bit of a word that isn't done yet
waiting : (count first n p x j r : ℕ) (old now : List (PageOf ℕ)) → AreClosed count first n p x old now → p ≤ r / 512 → (r / 512 ≡ p → x ≤ j * 8 + r % 512 / 64) → line_bit now j r ≡ line_bit old j r
waiting count first n p x j r old now so_far low next = bit-read now j r ∙ ap (λ v. bit v (r % 64)) (go (cases_lt p (r / 512))) ∙ sym (bit-read old j r) where
  go : (p < r / 512) ⊎ (r / 512 ≤ p) → slice_index (words_at now (r / 512)) (j * 8 + r % 512 / 64) ≡ slice_index (words_at old (r / 512)) (j * 8 + r % 512 / 64)
  go (inl h) = so_far.behind (r / 512) (j * 8 + r % 512 / 64) h
  go (inr h) =
      let e : r / 512 ≡ p = omega arith in
      ap (λ q. slice_index (words_at now q) (j * 8 + r % 512 / 64)) e ∙ so_far.rest (j * 8 + r % 512 / 64) (next e) ∙ ap (λ q. slice_index (words_at old q) (j * 8 + r % 512 / 64)) (sym e)

pub closed-word : (count first n p x : ℕ) (old now new : List (PageOf ℕ)) → AreClosed count first n p x old now → IsWordClosed first n p x now new → AreClosed count first n p (x + 1) old new
closed-word count first n p x old now new so_far word = record {
  alike = alike-both old now new so_far.alike word.alike;
  before = λ j r h l. others-bit p x j r now new word.others (λ a b. absurd (omega arith)) ∙ so_far.before j r h l;
  here = λ j r h e l. here j r h e l (cases_eq (j * 8 + r % 512 / 64) x);
  rest = λ y h. word.others p y (λ a b. absurd (omega arith)) ∙ so_far.rest y (omega arith);
  behind = λ q y h. word.others q y (λ a b. absurd (omega arith)) ∙ so_far.behind q y h;
} where
  same : (j r : ℕ) → r / 512 ≡ p → j * 8 + r % 512 / 64 ≡ x → (r < first) ⊎ (first ≤ r) → closed_bit now first n j r ≡ closed_bit old first n j r
  same j r e f (inl l) = closed-before now first n j r l ∙ waiting count first n p x j r old now so_far (omega arith) (λ g. omega arith) ∙ sym (closed-before old first n j r l)
  same j r e f (inr l) = closed-behind now first n j r l ∙ waiting count first n p x j (r + n) old now so_far (omega arith) (λ g. omega arith) ∙ sym (closed-behind old first n j r l)

  here : (j r : ℕ) → j < count → r / 512 ≡ p → j * 8 + r % 512 / 64 < x + 1 → (j * 8 + r % 512 / 64 ≡ x) ⊎ (j * 8 + r % 512 / 64 ≡ x → ⊥) → line_bit new j r ≡ closed_bit old first n j r
  here j r h e l (inl f) =
      let line_is : x / 8 ≡ j = omega arith in
      let place_is : 512 * p + 64 * (x % 8) + r % 64 ≡ r = omega arith in
      bit-read new j r ∙ ap (λ q. bit (slice_index (words_at new q) (j * 8 + r % 512 / 64)) (r % 64)) e ∙ ap (λ y. bit (slice_index (words_at new p) y) (r % 64)) f
      ∙ word.here (r % 64) (omega arith) ∙ ap (λ i. closed_bit now first n i (512 * p + 64 * (x % 8) + r % 64)) line_is ∙ ap (closed_bit now first n j) place_is ∙ same j r e f (cases_lt r first)
  here j r h e l (inr differs) = others-bit p x j r now new word.others (λ a b. differs b) ∙ so_far.here j r h e (less l differs) where
    less : j * 8 + r % 512 / 64 < x + 1 → (j * 8 + r % 512 / 64 ≡ x → ⊥) → j * 8 + r % 512 / 64 < x
    less a b = omega arith

pub closed-page : (count first n p x : ℕ) (old now : List (PageOf ℕ)) → count * 8 ≤ x → AreClosed count first n p x old now → AreClosed count first n (p + 1) 0 old now
closed-page count first n p x old now far so_far = record {
  alike = so_far.alike;
  before = λ j r h l. before j r h l (cases_lt (r / 512) p);
  here = λ j r h e l. absurd (omega arith);
  rest = λ y h. so_far.behind (p + 1) y (omega arith);
  behind = λ q y h. so_far.behind q y (omega arith);
} where
  before : (j r : ℕ) → j < count → r / 512 < p + 1 → (r / 512 < p) ⊎ (p ≤ r / 512) → line_bit now j r ≡ closed_bit old first n j r
  before j r h l (inl a) = so_far.before j r h a
  before j r h l (inr a) = so_far.here j r h (omega arith) (omega arith)

closed-bit : (count len first n end : ℕ) (old new : List (PageOf ℕ)) → AreLines count len old → first + n ≤ len → len ≤ 512 * end → AreClosed count first n end 0 old new
    → (j r : ℕ) → j < count → line_bit new j r ≡ closed_bit old first n j r
closed-bit count len first n end old new are fits far closed j r h = go (cases_lt (r / 512) end) where
  go : (r / 512 < end) ⊎ (end ≤ r / 512) → line_bit new j r ≡ closed_bit old first n j r
  go (inl l) = closed.before j r h l
  go (inr l) =
      waiting count first n end 0 j r old new closed l (λ e. omega arith) ∙ are.past j r h (omega arith)
      ∙ sym (closed-behind old first n j r (omega arith) ∙ are.past j (r + n) h (omega arith))

pub closed-lines : (count len first n end : ℕ) (old new : List (PageOf ℕ)) → AreLines count len old → first + n ≤ len → len ≤ 512 * end → AreClosed count first n end 0 old new → AreLines count (len - n) new
closed-lines count len first n end old new are fits far closed =
    sized-lines old new count len (len - n) are closed.alike.long closed.alike.sizes (let w = are.within in let l = closed.alike.long in omega arith)
    (λ j r h l. closed-bit count len first n end old new are fits far closed j r h ∙ closed-behind old first n j r (omega arith) ∙ are.past j (r + n) h (omega arith))

pub closed-rows : (count len first n end : ℕ) (old new : List (PageOf ℕ)) → AreLines count len old → first + n ≤ len → len ≤ 512 * end → AreClosed count first n end 0 old new
    → Each (IsClosedUp first n) (rows_of old len count) (rows_of new (len - n) count)
closed-rows count len first n end old new are fits far closed = record {
  long = rows-length new (len - n) count ∙ sym (rows-length old len count);
  at = λ j h. go j (omega (arith, rows-length old len count));
} where
  front : (j : ℕ) → first + n ≤ length (row_in old len j).bits
  front j = omega (arith, line-length old len j)

  long : (j : ℕ) → length (without_run (row_in old len j).bits first n) ≡ len - n
  long j = omega (
    arith,
    length-append (take first (row_in old len j).bits) (drop (first + n) (row_in old len j).bits),
    length-take first (row_in old len j).bits,
    length-drop (first + n) (row_in old len j).bits,
    line-length old len j,
  )

  each : (j r : ℕ) → j < count → r < len - n → (r < first) ⊎ (first ≤ r) → at (row_in new (len - n) j).bits r ≡ at (without_run (row_in old len j).bits first n) r
  each j r h l (inl a) =
      line-within new (len - n) j r l ∙ closed-bit count len first n end old new are fits far closed j r h ∙ closed-before old first n j r a ∙ sym (line-within old len j r (omega arith))
      ∙ sym (at-without false (row_in old len j).bits first n r (front j) ∙ ap (at (row_in old len j).bits) (cond-true _ r (r + n) (lt-ltb r first a)))
  each j r h l (inr a) =
      line-within new (len - n) j r l ∙ closed-bit count len first n end old new are fits far closed j r h ∙ closed-behind old first n j r a ∙ sym (line-within old len j (r + n) (omega arith))
      ∙ sym (at-without false (row_in old len j).bits first n r (front j) ∙ ap (at (row_in old len j).bits) (cond-false _ r (r + n) (le-ltb r first a)))

  go : (j : ℕ) → j < count → IsClosedUp first n (bucket_at (rows_of old len count) j) (bucket_at (rows_of new (len - n) count) j)
  go j h = rw (row-at old len count j h, row-at new (len - n) count j h) (record {
    bits = ext_get_or false (row_in new (len - n) j).bits (without_run (row_in old len j).bits first n) (line-length new (len - n) j ∙ sym (long j))
        (λ r l. let m : r < len - n = omega (arith, line-length new (len - n) j) in each j r h m (cases_lt r first));
    room = let w = are.within in let l = closed.alike.long in omega (arith, line-length new (len - n) j, line-length old len j, line-spare new (len - n) j, line-spare old len j);
  })
