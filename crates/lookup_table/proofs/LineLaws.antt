-- Rows in pages of lines of eight words.
use Rattle.std.proofs.Common.{◌≡◌, refl, sym, ◌∙◌, ap, ℕ, zero, suc, ◌+◌, ◌-◌, ◌*◌, ◌/◌, ◌%◌, ◌^◌, ◌<◌, ◌≤◌, ◌⊎◌, inl, inr, [], ◌∷◌, ◌++◌, Bool, true, false, ◌&&◌, ◌||◌, ◌==◌, nat_le, List, length, get_or, map, replicate, set, arith, All, bit_or, subst}
use Rattle.std.specs.Prelude.{slice_index}
use Rattle.std.proofs.lemmas.Bool.{cases_lt, cases_eq, lt-ltb, le-ltb, le-leb, lt-leb, eq-eqb, ne_eqb}
use Rattle.std.proofs.lemmas.List.{get_or-set_same, get_or-set_other, length-set, get_or_default, get_or_append_left, get_or-append_right, get_or_past, ext_get_or, length-replicate, length-append, get_or-replicate, get_or_push, length-map, get_or-map}
use Rattle.std.proofs.lemmas.List.Elements.{All-get_or, All-from_get_or, All-set, All-nil, All-push}
use Rattle.std.proofs.lemmas.List.FromFn.{length-map-range_with_len, get_or-map-range_with_len}
use Rattle.std.proofs.Math.Bool.{and-false, or-false, and_assoc}
use Rattle.bit_rows.specs.Row.{Row, at, bit, lies}
use Rattle.bit_rows.proofs.Bits.{bit-or, bit-shl, bit-ones, bit-zero, bit-above}
use Rattle.bit_rows.proofs.Tests.{lies-in, lies-below, lies-above, lies-join}
use Rattle.shared_pages.specs.Paged.{PageOf, owns_of, AreCommon}
use Rattle.shared_pages.proofs.PageLaws.{copied-length}
use Rattle.lookup_table.specs.Table.{bucket_at, cell}
use Rattle.lookup_table.specs.Rows.{Each, IsRaised, IsMarked, IsGrown}
use Rattle.lookup_table.specs.Lines.{words_at, AreOwned, line_bit, row_in, rows_of, IsPageOf, AreLines, HasLine, AreMarked, IsMore, IsPage, IsWithinRoom, OwnsPlaces, OwnsNoPage}
use Rattle.lookup_table.proofs.RowsLaws.{cell-is, All-bucket, bucket-All}

-- ---- rows

pub rows-length : (pages : List (PageOf ℕ)) (len count : ℕ) → length (rows_of pages len count) ≡ count
unfolding rows_of
rows-length pages len count = length-map-range_with_len (row_in pages len) 0 count

pub row-at : (pages : List (PageOf ℕ)) (len count j : ℕ) → j < count → bucket_at (rows_of pages len count) j ≡ row_in pages len j
unfolding rows_of
row-at pages len count j h = get_or-map-range_with_len (row_in pages len) 0 count j j _ h (omega arith)

pub line-length : (pages : List (PageOf ℕ)) (len j : ℕ) → length (row_in pages len j).bits ≡ len
unfolding row_in
line-length pages len j = length-map-range_with_len (line_bit pages j) 0 len

pub line-spare : (pages : List (PageOf ℕ)) (len j : ℕ) → (row_in pages len j).spare ≡ 512 * length pages - len
unfolding row_in
line-spare pages len j = refl

pub line-within : (pages : List (PageOf ℕ)) (len j r : ℕ) → r < len → at (row_in pages len j).bits r ≡ line_bit pages j r
unfolding row_in
line-within pages len j r h = get_or-map-range_with_len (line_bit pages j) 0 len r r false h (omega arith)

line-at : (pages : List (PageOf ℕ)) (len count j r : ℕ) → AreLines count len pages → j < count → (r < len) ⊎ (len ≤ r) → at (row_in pages len j).bits r ≡ line_bit pages j r
line-at pages len count j r are h (inl l) = line-within pages len j r l
line-at pages len count j r are h (inr l) = get_or_past (row_in pages len j).bits r false (omega (arith, line-length pages len j)) ∙ sym (are.past j r h l)

pub cell-line : (pages : List (PageOf ℕ)) (len count j r : ℕ) → AreLines count len pages → j < count → cell (rows_of pages len count) j r ≡ line_bit pages j r
cell-line pages len count j r are h =
    cell-is (rows_of pages len count) j r ∙ ap (λ (x : Row). at x.bits r) (row-at pages len count j h) ∙ line-at pages len count j r are h (cases_lt r len)

pub cell-beyond : (pages : List (PageOf ℕ)) (len count j r : ℕ) → count ≤ j → cell (rows_of pages len count) j r ≡ false
cell-beyond pages len count j r h =
    cell-is (rows_of pages len count) j r ∙ ap (λ (x : Row). at x.bits r) (get_or_past (rows_of pages len count) j _ (omega (arith, rows-length pages len count)))

pub bit-read : (pages : List (PageOf ℕ)) (j r : ℕ) → line_bit pages j r ≡ bit (slice_index (words_at pages (r / 512)) (j * 8 + r % 512 / 64)) (r % 64)
unfolding line_bit
bit-read pages j r = refl

-- ---- a word

pub word-read : (pages : List (PageOf ℕ)) (j i k : ℕ) → k < 64 → line_bit pages j (64 * i + k) ≡ bit (slice_index (words_at pages (i / 8)) (j * 8 + i % 8)) k
word-read pages j i k h =
    let a : (64 * i + k) / 512 ≡ i / 8 = omega arith in
    let b : (64 * i + k) % 512 / 64 ≡ i % 8 = omega arith in
    let e : (64 * i + k) % 64 ≡ k = omega arith in
    bit-read pages j (64 * i + k) ∙ ap (λ p. bit (slice_index (words_at pages p) (j * 8 + (64 * i + k) % 512 / 64)) ((64 * i + k) % 64)) a
    ∙ ap (λ w. bit (slice_index (words_at pages (i / 8)) (j * 8 + w)) ((64 * i + k) % 64)) b
    ∙ ap (λ m. bit (slice_index (words_at pages (i / 8)) (j * 8 + i % 8)) m) e

-- the 64 places from `from` on, from two words
pub joined-line : (pages : List (PageOf ℕ)) (j from k low high v : ℕ) → low < 2 ^ 64 → low ≡ slice_index (words_at pages (from / 64 / 8)) (j * 8 + from / 64 % 8) → high ≡ slice_index (words_at pages ((from / 64 + 1) / 8)) (j * 8 + (from / 64 + 1) % 8) → k < 64
    → bit v k ≡ (bit low (from % 64 + k) || (nat_le 64 (from % 64 + k) && bit high (from % 64 + k - 64))) → bit v k ≡ line_bit pages j (from + k)
joined-line pages j from k low high v fits a b h e = e ∙ go (cases_lt (from % 64 + k) 64) where
  go : (from % 64 + k < 64) ⊎ (64 ≤ from % 64 + k) → (bit low (from % 64 + k) || (nat_le 64 (from % 64 + k) && bit high (from % 64 + k - 64))) ≡ line_bit pages j (from + k)
  go (inl l) =
      let at : 64 * (from / 64) + (from % 64 + k) ≡ from + k = omega arith in
      ap (λ t. bit low (from % 64 + k) || (t && bit high (from % 64 + k - 64))) (lt-leb 64 (from % 64 + k) l) ∙ or-false (bit low (from % 64 + k))
      ∙ ap (λ w. bit w (from % 64 + k)) a ∙ sym (word-read pages j (from / 64) (from % 64 + k) l) ∙ ap (line_bit pages j) at
  go (inr l) =
      let at : 64 * (from / 64 + 1) + (from % 64 + k - 64) ≡ from + k = omega arith in
      ap (λ t. t || (nat_le 64 (from % 64 + k) && bit high (from % 64 + k - 64))) (bit-above low (from % 64 + k) fits l)
      ∙ ap (λ t. t && bit high (from % 64 + k - 64)) (le-leb 64 (from % 64 + k) l)
      ∙ ap (λ w. bit w (from % 64 + k - 64)) b ∙ sym (word-read pages j (from / 64 + 1) (from % 64 + k - 64) (omega arith)) ∙ ap (line_bit pages j) at

-- the 64 places that come fewer than 64 places after those of a word, if the next word is in the
-- same line
pub joined-near : (pages : List (PageOf ℕ)) (p x n k low high v : ℕ) → low < 2 ^ 64 → low ≡ slice_index (words_at pages p) x → high ≡ slice_index (words_at pages p) (x + 1) → n < 64 → x % 8 + 1 < 8 → k < 64
    → bit v k ≡ (bit low (n + k) || (nat_le 64 (n + k) && bit high (n + k - 64))) → bit v k ≡ line_bit pages (x / 8) (64 * (p * 8 + x % 8) + n + k)
joined-near pages p x n k low high v fits a b few near h e = go (64 * (p * 8 + x % 8) + n) refl where
  go : (from : ℕ) → from ≡ 64 * (p * 8 + x % 8) + n → bit v k ≡ line_bit pages (x / 8) (from + k)
  go from at =
      let page : from / 64 / 8 ≡ p = omega arith in
      let word : x / 8 * 8 + from / 64 % 8 ≡ x = omega arith in
      let next_page : (from / 64 + 1) / 8 ≡ p = omega arith in
      let next : x / 8 * 8 + (from / 64 + 1) % 8 ≡ x + 1 = omega arith in
      let by : from % 64 ≡ n = omega arith in
      joined-line pages (x / 8) from k low high v fits (rw (page, word) a) (rw (next_page, next) b) h (rw by e)

-- the words of a page
pub bit-length : (pages : List (PageOf ℕ)) (count p : ℕ) → All (IsPageOf count) pages → p < length pages → length (words_at pages p) ≡ count * 8
bit-length pages count p each h = (All-get_or (IsPageOf count) pages p (record { items = []; own = true }) h each).long

pub page-line : (pages : List (PageOf ℕ)) (count j : ℕ) → All (IsPageOf count) pages → j < count → HasLine j pages
page-line pages count j each h = record { line = λ p l. let e : length (words_at pages p) ≡ count * 8 = bit-length pages count p each l in omega arith }

-- a word of a row
pub word-cell : (pages : List (PageOf ℕ)) (len count j i word : ℕ) → AreLines count len pages → j < count → word ≡ slice_index (words_at pages (i / 8)) (j * 8 + i % 8)
    → (k : ℕ) → k < 64 → bit word k ≡ cell (rows_of pages len count) j (64 * i + k)
word-cell pages len count j i word are h e k small = ap (λ x. bit x k) e ∙ sym (word-read pages j i k small) ∙ sym (cell-line pages len count j (64 * i + k) are h)

-- the words of a page
pub page-cells : (pages : List (PageOf ℕ)) (len count p : ℕ) (page : PageOf ℕ) (words : List ℕ) → AreLines count len pages → p < length pages → page ≡ get_or pages p page → words ≡ page.items
    → IsPage (rows_of pages len count) p words
page-cells pages len count p page words are within e f = record {
  long = ap length f ∙ ap (λ (m : PageOf ℕ). length m.items) e ∙ (All-get_or (IsPageOf count) pages p page within are.each).long ∙ ap (λ n. n * 8) (sym (rows-length pages len count));
  bits = λ j w k h small low.
      let line : j < count = omega (arith, rows-length pages len count) in
      let at : 8 * p + w ≡ p * 8 + w = omega arith in
      let a : (8 * p + w) / 8 ≡ p = omega arith in
      let b : (8 * p + w) % 8 ≡ w = omega arith in
      let c : 64 * (8 * p + w) + k ≡ 512 * p + 64 * w + k = omega arith in
      ap (λ ws. bit (slice_index ws (j * 8 + w)) k) (f ∙ ap (λ (m : PageOf ℕ). m.items) (e ∙ get_or_default pages p page _ within))
      ∙ ap (λ q. bit (slice_index (words_at pages q) (j * 8 + w)) k) (sym a) ∙ ap (λ v. bit (slice_index (words_at pages ((8 * p + w) / 8)) (j * 8 + v)) k) (sym b)
      ∙ sym (word-read pages j (8 * p + w) k low) ∙ sym (cell-line pages len count j (64 * (8 * p + w) + k) are line) ∙ ap (cell (rows_of pages len count) j) c;
}

-- ---- one bit

one-bit : (k m : ℕ) → m < 64 → bit (1 * 2 ^ k % 2 ^ 64) m ≡ (m == k)
one-bit k m h = bit-shl 1 k m h ∙ go (cases_eq m k) where
  go : (m ≡ k) ⊎ (m ≡ k → ⊥) → (nat_le k m && bit 1 (m - k)) ≡ (m == k)
  go (inl e) =
      let z : m - k ≡ 0 = omega arith in
      ap (λ t. t && bit 1 (m - k)) (le-leb k m (omega arith)) ∙ ap (λ n. bit 1 n) z ∙ bit-ones 1 0 ∙ lt-ltb 0 1 (omega arith) ∙ sym (eq-eqb m k e)
  go (inr e) = side (cases_lt m k) ∙ sym (ne_eqb m k e) where
    side : (m < k) ⊎ (k ≤ m) → (nat_le k m && bit 1 (m - k)) ≡ false
    side (inl l) = ap (λ t. t && bit 1 (m - k)) (lt-leb k m l)
    side (inr l) = ap (λ t. nat_le k m && t) (bit-ones 1 (m - k) ∙ le-ltb (m - k) 1 (apart l e)) ∙ and-false (nat_le k m) where
      apart : k ≤ m → (m ≡ k → ⊥) → 1 ≤ m - k
      apart a b = omega arith

pub marked-one : (old : List ℕ) (j w k word : ℕ) → j * 8 + w < length old → w < 8 → word ≡ get_or old (j * 8 + w) 0 → AreMarked j (j + 1) w k old (set old (j * 8 + w) (bit_or word (1 * 2 ^ k % 2 ^ 64)))
marked-one old j w k word h small e = record { long = length-set old (j * 8 + w) _; bits = λ x m l. go x m l (cases_eq x (j * 8 + w)) } where
  new : List ℕ
  new = set old (j * 8 + w) (bit_or word (1 * 2 ^ k % 2 ^ 64))

  go : (x m : ℕ) → m < 64 → (x ≡ j * 8 + w) ⊎ (x ≡ j * 8 + w → ⊥) → bit (slice_index new x) m ≡ (bit (slice_index old x) m || ((lies j (j + 1) (x / 8) && x % 8 == w) && m == k))
  go x m l (inl same) =
      let a : x / 8 ≡ j = omega arith in
      let b : x % 8 ≡ w = omega arith in
      let t : (lies j (j + 1) (x / 8) && x % 8 == w) ≡ true = ap (λ z. z && x % 8 == w) (lies-in j (j + 1) (x / 8) (omega arith) (omega arith)) ∙ eq-eqb (x % 8) w b in
      ap (λ z. bit (slice_index new z) m) same ∙ ap (λ z. bit z m) (get_or-set_same old (j * 8 + w) (bit_or word (1 * 2 ^ k % 2 ^ 64)) 0 h)
      ∙ bit-or word (1 * 2 ^ k % 2 ^ 64) m ∙ ap (λ z. bit word m || z) (one-bit k m l) ∙ ap (λ z. bit z m || (m == k)) (e ∙ ap (λ z. slice_index old z) (sym same))
      ∙ ap (λ z. bit (slice_index old x) m || (z && m == k)) (sym t)
  go x m l (inr differs) =
      let t : (lies j (j + 1) (x / 8) && x % 8 == w) ≡ false = out (cases_lt (x / 8) j) (cases_lt (x / 8) (j + 1)) in
      ap (λ z. bit z m) (get_or-set_other old (j * 8 + w) x (bit_or word (1 * 2 ^ k % 2 ^ 64)) 0 differs)
      ∙ sym (ap (λ z. bit (slice_index old x) m || (z && m == k)) t ∙ or-false (bit (slice_index old x) m)) where
        out : (x / 8 < j) ⊎ (j ≤ x / 8) → (x / 8 < j + 1) ⊎ (j + 1 ≤ x / 8) → (lies j (j + 1) (x / 8) && x % 8 == w) ≡ false
        out (inl a) b = ap (λ z. z && x % 8 == w) (lies-below j (j + 1) (x / 8) a)
        out (inr a) (inr b) = ap (λ z. z && x % 8 == w) (lies-above j (j + 1) (x / 8) b)
        out (inr a) (inl b) = ap (λ z. lies j (j + 1) (x / 8) && z) (ne_eqb (x % 8) w (λ q. differs (omega arith))) ∙ and-false (lies j (j + 1) (x / 8))

pub lines-none : (from w k : ℕ) (old : List ℕ) → AreMarked from from w k old old
lines-none from w k old = record { long = refl; bits = λ x m h. sym (ap (λ z. bit (slice_index old x) m || ((z && x % 8 == w) && m == k)) (none x (cases_lt (x / 8) from)) ∙ or-false (bit (slice_index old x) m)) } where
  none : (x : ℕ) → (x / 8 < from) ⊎ (from ≤ x / 8) → lies from from (x / 8) ≡ false
  none x (inl h) = lies-below from from (x / 8) h
  none x (inr h) = lies-above from from (x / 8) h

three : (p a b c d : Bool) → ((p || ((a && c) && d)) || ((b && c) && d)) ≡ (p || (((a || b) && c) && d))
three true a b c d = refl
three false true b true true = refl
three false true true true false = refl
three false true false true false = refl
three false true true false d = refl
three false true false false d = refl
three false false b c d = refl

pub lines-more : (from j w k : ℕ) (old now new : List ℕ) → from ≤ j → AreMarked from j w k old now → AreMarked j (j + 1) w k now new → AreMarked from (j + 1) w k old new
lines-more from j w k old now new low first next = record {
  long = next.long ∙ first.long;
  bits = λ x m h.
      next.bits x m h ∙ ap (λ z. z || ((lies j (j + 1) (x / 8) && x % 8 == w) && m == k)) (first.bits x m h)
      ∙ three (bit (slice_index old x) m) (lies from j (x / 8)) (lies j (j + 1) (x / 8)) (x % 8 == w) (m == k)
      ∙ ap (λ z. bit (slice_index old x) m || ((z && x % 8 == w) && m == k)) (lies-join false from j (j + 1) (x / 8) low (omega arith));
}

-- ---- room

pub raise-room : (pages : List (PageOf ℕ)) (len count n : ℕ) → 1 ≤ count → All (λ row. n ≤ row.spare) (rows_of pages len count) → n ≤ 512 * length pages - len
raise-room pages len count n some all =
    let h : n ≤ (bucket_at (rows_of pages len count) 0).spare = All-bucket (λ (x : Row). n ≤ x.spare) (rows_of pages len count) 0 all (omega (arith, rows-length pages len count)) in
    omega (arith, h, ap (λ (x : Row). x.spare) (row-at pages len count 0 (omega arith)), line-spare pages len 0)

raised-bits : (pages : List (PageOf ℕ)) (len count n j : ℕ) → AreLines count len pages → j < count → (row_in pages (len + n) j).bits ≡ (row_in pages len j).bits ++ replicate n false
raised-bits pages len count n j are h =
    let a = line-length pages (len + n) j in
    let b = line-length pages len j in
    let e = length-append (row_in pages len j).bits (replicate n false) in
    let r = length-replicate n false in
    ext_get_or false (row_in pages (len + n) j).bits ((row_in pages len j).bits ++ replicate n false) (omega arith) (λ i l. go i (omega arith) (cases_lt i len)) where
      go : (i : ℕ) → i < len + n → (i < len) ⊎ (len ≤ i) → at (row_in pages (len + n) j).bits i ≡ at ((row_in pages len j).bits ++ replicate n false) i
      go i l (inl m) = line-within pages (len + n) j i l ∙ sym (line-within pages len j i m) ∙ sym (get_or_append_left (row_in pages len j).bits (replicate n false) false i (omega (arith, line-length pages len j)))
      go i l (inr m) =
          line-within pages (len + n) j i l ∙ are.past j i h m
          ∙ sym (get_or-append_right (row_in pages len j).bits (replicate n false) len i false (line-length pages len j) m ∙ get_or-replicate n (i - len) false false (omega arith))

pub raised : (pages : List (PageOf ℕ)) (len count n : ℕ) → AreLines count len pages → n ≤ 512 * length pages - len → Each (IsRaised n) (rows_of pages len count) (rows_of pages (len + n) count)
raised pages len count n are room = record {
  long = rows-length pages (len + n) count ∙ sym (rows-length pages len count);
  at = λ j h. go j (omega (arith, rows-length pages len count));
} where
  go : (j : ℕ) → j < count → IsRaised n (bucket_at (rows_of pages len count) j) (bucket_at (rows_of pages (len + n) count) j)
  go j h = rw (row-at pages len count j h, row-at pages (len + n) count j h) (record {
    bits = raised-bits pages len count n j are h;
    spare = let w = are.within in omega (arith, line-spare pages len j, line-spare pages (len + n) j);
  })

-- ---- marks

same-bit : (i r : ℕ) → i / 512 ≡ r / 512 → (i % 512 / 64 == r % 512 / 64 && i % 64 == r % 64) ≡ (i == r)
same-bit i r page = go (cases_eq i r) (cases_eq (i % 512 / 64) (r % 512 / 64)) (cases_eq (i % 64) (r % 64)) where
  go : (i ≡ r) ⊎ (i ≡ r → ⊥) → (i % 512 / 64 ≡ r % 512 / 64) ⊎ (i % 512 / 64 ≡ r % 512 / 64 → ⊥) → (i % 64 ≡ r % 64) ⊎ (i % 64 ≡ r % 64 → ⊥)
      → (i % 512 / 64 == r % 512 / 64 && i % 64 == r % 64) ≡ (i == r)
  go (inl e) (inl a) (inl b) = ap (λ z. z && i % 64 == r % 64) (eq-eqb _ _ a) ∙ eq-eqb _ _ b ∙ sym (eq-eqb i r e)
  go (inl e) (inr a) b = absurd (a (ap (λ z. z % 512 / 64) e))
  go (inl e) (inl a) (inr b) = absurd (b (ap (λ z. z % 64) e))
  go (inr e) (inl a) (inl b) = absurd (e (omega arith))
  go (inr e) (inr a) b = ap (λ z. z && i % 64 == r % 64) (ne_eqb _ _ a) ∙ sym (ne_eqb i r e)
  go (inr e) (inl a) (inr b) = ap (λ z. i % 512 / 64 == r % 512 / 64 && z) (ne_eqb _ _ b) ∙ and-false _ ∙ sym (ne_eqb i r e)

pub bit-marked : (pages : List (PageOf ℕ)) (from to r j i : ℕ) (old new : PageOf ℕ) → r / 512 < length pages → old ≡ get_or pages (r / 512) old → AreMarked from to (r % 512 / 64) (r % 64) old.items new.items
    → line_bit (set pages (r / 512) new) j i ≡ (line_bit pages j i || (lies from to j && i == r))
bit-marked pages from to r j i old new within e marked = go (cases_eq (i / 512) (r / 512)) where
  go : (i / 512 ≡ r / 512) ⊎ (i / 512 ≡ r / 512 → ⊥) → line_bit (set pages (r / 512) new) j i ≡ (line_bit pages j i || (lies from to j && i == r))
  go (inl same) =
      let a : words_at (set pages (r / 512) new) (i / 512) ≡ new.items = ap (words_at (set pages (r / 512) new)) same ∙ ap (λ (m : PageOf ℕ). m.items) (get_or-set_same pages (r / 512) new _ within) in
      let b : words_at pages (i / 512) ≡ old.items = ap (words_at pages) same ∙ ap (λ (m : PageOf ℕ). m.items) (get_or_default pages (r / 512) _ old within ∙ sym e) in
      let x : (j * 8 + i % 512 / 64) / 8 ≡ j = omega arith in
      let y : (j * 8 + i % 512 / 64) % 8 ≡ i % 512 / 64 = omega arith in
      let t : ((lies from to j && i % 512 / 64 == r % 512 / 64) && i % 64 == r % 64) ≡ (lies from to j && i == r) = and_assoc (lies from to j) _ _ ∙ ap (λ z. lies from to j && z) (same-bit i r same) in
      bit-read (set pages (r / 512) new) j i ∙ ap (λ ws. bit (slice_index ws (j * 8 + i % 512 / 64)) (i % 64)) a
      ∙ marked.bits (j * 8 + i % 512 / 64) (i % 64) (omega arith)
      ∙ ap (λ ws. bit (slice_index ws (j * 8 + i % 512 / 64)) (i % 64) || ((lies from to ((j * 8 + i % 512 / 64) / 8) && (j * 8 + i % 512 / 64) % 8 == r % 512 / 64) && i % 64 == r % 64)) (sym b)
      ∙ ap (λ z. z || ((lies from to ((j * 8 + i % 512 / 64) / 8) && (j * 8 + i % 512 / 64) % 8 == r % 512 / 64) && i % 64 == r % 64)) (sym (bit-read pages j i))
      ∙ ap (λ z. line_bit pages j i || ((lies from to z && (j * 8 + i % 512 / 64) % 8 == r % 512 / 64) && i % 64 == r % 64)) x
      ∙ ap (λ z. line_bit pages j i || ((lies from to j && z == r % 512 / 64) && i % 64 == r % 64)) y
      ∙ ap (λ z. line_bit pages j i || z) t
  go (inr differs) =
      let n : (i == r) ≡ false = ne_eqb i r (λ q. differs (ap (λ z. z / 512) q)) in
      bit-read (set pages (r / 512) new) j i ∙ ap (λ (m : PageOf ℕ). bit (slice_index m.items (j * 8 + i % 512 / 64)) (i % 64)) (get_or-set_other pages (r / 512) (i / 512) new _ differs)
      ∙ sym (bit-read pages j i) ∙ sym (ap (λ z. line_bit pages j i || (lies from to j && z)) n ∙ ap (λ z. line_bit pages j i || z) (and-false (lies from to j)) ∙ or-false (line_bit pages j i))

pub page-long : (pages : List (PageOf ℕ)) (count len p : ℕ) (page : PageOf ℕ) → AreLines count len pages → p < length pages → page ≡ get_or pages p page → length page.items ≡ count * 8
page-long pages count len p page are h e = ap (λ l. length l.items) e ∙ (All-get_or (IsPageOf count) pages p page h are.each).long

pub lines-kept : (pages : List (PageOf ℕ)) (count len from to r : ℕ) (old new : PageOf ℕ) → AreLines count len pages → r < len → old ≡ get_or pages (r / 512) old
    → AreMarked from to (r % 512 / 64) (r % 64) old.items new.items → AreLines count len (set pages (r / 512) new)
lines-kept pages count len from to r old new are low e marked =
    let w = are.within in
    let long = length-set pages (r / 512) new in
    record {
      each = All-set (IsPageOf count) pages (r / 512) new (record { long = marked.long ∙ (page-long pages count len (r / 512) old are (omega arith) e) }) are.each;
      within = omega arith;
      small = let s = are.small in omega arith;
      few = are.few;
      past = λ j i h l.
          let n : (i == r) ≡ false = ne_eqb i r (λ q. absurd (omega arith)) in
          bit-marked pages from to r j i old new (omega arith) e marked ∙ ap (λ z. z || (lies from to j && i == r)) (are.past j i h l) ∙ ap (λ z. lies from to j && z) n ∙ and-false (lies from to j);
    }

pub rows-marked : (pages : List (PageOf ℕ)) (count len from to r : ℕ) (old new : PageOf ℕ) → AreLines count len pages → r < len → to ≤ count → old ≡ get_or pages (r / 512) old
    → AreMarked from to (r % 512 / 64) (r % 64) old.items new.items → IsMarked from to r (rows_of pages len count) (rows_of (set pages (r / 512) new) len count)
rows-marked pages count len from to r old new are low high e marked = record {
  size = record {
    long = rows-length next len count ∙ sym (rows-length pages len count);
    bits = λ j. lengths j (cases_lt j count);
    spare = λ j. spares j (cases_lt j count);
  };
  cells = λ j i. cells_at j i (cases_lt j count);
} where
  next : List (PageOf ℕ)
  next = set pages (r / 512) new

  beyond : (ps : List (PageOf ℕ)) (j : ℕ) → count ≤ j → bucket_at (rows_of ps len count) j ≡ record { bits = []; spare = 0 }
  beyond ps j h = get_or_past (rows_of ps len count) j _ (omega (arith, rows-length ps len count))

  lengths : (j : ℕ) → (j < count) ⊎ (count ≤ j) → length (bucket_at (rows_of next len count) j).bits ≡ length (bucket_at (rows_of pages len count) j).bits
  lengths j (inl h) = ap (λ (x : Row). length x.bits) (row-at next len count j h) ∙ line-length next len j ∙ sym (line-length pages len j) ∙ ap (λ (x : Row). length x.bits) (sym (row-at pages len count j h))
  lengths j (inr h) = ap (λ (x : Row). length x.bits) (beyond next j h ∙ sym (beyond pages j h))

  spares : (j : ℕ) → (j < count) ⊎ (count ≤ j) → (bucket_at (rows_of next len count) j).spare ≡ (bucket_at (rows_of pages len count) j).spare
  spares j (inl h) =
      ap (λ (x : Row). x.spare) (row-at next len count j h) ∙ line-spare next len j ∙ ap (λ n. 512 * n - len) (length-set pages (r / 512) new)
      ∙ sym (line-spare pages len j) ∙ ap (λ (x : Row). x.spare) (sym (row-at pages len count j h))
  spares j (inr h) = ap (λ (x : Row). x.spare) (beyond next j h ∙ sym (beyond pages j h))

  within : r / 512 < length pages
  within = let w = are.within in omega arith

  cells_at : (j i : ℕ) → (j < count) ⊎ (count ≤ j) → cell (rows_of next len count) j i ≡ (cell (rows_of pages len count) j i || (lies from to j && i == r))
  cells_at j i (inl h) =
      cell-line next len count j i (lines-kept pages count len from to r old new are low e marked) h ∙ bit-marked pages from to r j i old new within e marked
      ∙ ap (λ z. z || (lies from to j && i == r)) (sym (cell-line pages len count j i are h))
  cells_at j i (inr h) =
      cell-beyond next len count j i h
      ∙ sym (ap (λ z. z || (lies from to j && i == r)) (cell-beyond pages len count j i h) ∙ ap (λ z. z && i == r) (lies-above from to j (omega arith)))

pub place-within : (pages : List (PageOf ℕ)) (len count r : ℕ) → 1 ≤ count → All (λ row. r < length row.bits) (rows_of pages len count) → r < len
place-within pages len count r some all =
    let h : r < length (bucket_at (rows_of pages len count) 0).bits = All-bucket (λ (x : Row). r < length x.bits) (rows_of pages len count) 0 all (omega (arith, rows-length pages len count)) in
    omega (arith, h, ap (λ (x : Row). length x.bits) (row-at pages len count 0 (omega arith)), line-length pages len 0)

-- ---- more pages

pub more-none : (count : ℕ) (pages : List (PageOf ℕ)) → IsMore count pages pages
more-none count pages = record { words = λ p x. refl; long = omega arith; each = λ each. each }

pub more-both : (count : ℕ) (a b c : List (PageOf ℕ)) → IsMore count a b → IsMore count b c → IsMore count a c
more-both count a b c x y = record { words = λ p i. y.words p i ∙ x.words p i; long = let s = x.long in let t = y.long in omega arith; each = λ each. y.each (x.each each) }

pub more-page : (count : ℕ) (pages : List (PageOf ℕ)) (page : PageOf ℕ) → page.items ≡ replicate (count * 8) 0 → IsMore count pages (pages ++ page ∷ [])
more-page count pages page e = record {
  words = λ p x. go p x (cases_lt p (length pages)) (cases_eq p (length pages));
  long = omega (arith, length-append pages (page ∷ []));
  each = λ each. All-push (IsPageOf count) pages page each (record { long = ap length e ∙ length-replicate (count * 8) 0 });
} where
  zero_word : (x : ℕ) → (x < count * 8) ⊎ (count * 8 ≤ x) → slice_index (replicate (count * 8) 0) x ≡ 0
  zero_word x (inl h) = get_or-replicate (count * 8) x 0 0 h
  zero_word x (inr h) = get_or_past (replicate (count * 8) 0) x 0 (subst (λ z. z ≤ x) (sym (length-replicate {A = ℕ} (count * 8) 0)) h)

  go : (p x : ℕ) → (p < length pages) ⊎ (length pages ≤ p) → (p ≡ length pages) ⊎ (p ≡ length pages → ⊥) → slice_index (words_at (pages ++ page ∷ []) p) x ≡ slice_index (words_at pages p) x
  go p x (inl h) same = ap (λ l. slice_index l.items x) (get_or_append_left pages (page ∷ []) _ p h)
  go p x (inr h) (inl same) =
      ap (λ l. slice_index l.items x) (get_or_push pages page _ p (sym same)) ∙ ap (λ ws. slice_index ws x) e ∙ zero_word x (cases_lt x (count * 8))
      ∙ sym (ap (λ l. slice_index l.items x) (get_or_past pages p _ h))
  go p x (inr h) (inr differs) =
      ap (λ l. slice_index l.items x) (get_or_past (pages ++ page ∷ []) p _ (omega (arith, length-append pages (page ∷ [])))) ∙ sym (ap (λ l. slice_index l.items x) (get_or_past pages p _ h))

bit-more : (count : ℕ) (old new : List (PageOf ℕ)) → IsMore count old new → (j r : ℕ) → line_bit new j r ≡ line_bit old j r
bit-more count old new more j r = bit-read new j r ∙ ap (λ w. bit w (r % 64)) (more.words (r / 512) (j * 8 + r % 512 / 64)) ∙ sym (bit-read old j r)

pub lines-more_pages : (count len : ℕ) (old new : List (PageOf ℕ)) → AreLines count len old → IsMore count old new → 512 * length new < 2 ^ 32 → AreLines count len new
lines-more_pages count len old new are more small = record {
  each = more.each are.each;
  within = let w = are.within in let l = more.long in omega arith;
  small = small;
  few = are.few;
  past = λ j r h l. bit-more count old new more j r ∙ are.past j r h l;
}

pub rows-grown : (count len : ℕ) (old new : List (PageOf ℕ)) → IsMore count old new → Each IsGrown (rows_of old len count) (rows_of new len count)
rows-grown count len old new more = record {
  long = rows-length new len count ∙ sym (rows-length old len count);
  at = λ j h. go j (omega (arith, rows-length old len count));
} where
  same : (j : ℕ) → (row_in new len j).bits ≡ (row_in old len j).bits
  same j = ext_get_or false (row_in new len j).bits (row_in old len j).bits (line-length new len j ∙ sym (line-length old len j))
      (λ i h. let l : i < len = omega (arith, line-length new len j) in line-within new len j i l ∙ bit-more count old new more j i ∙ sym (line-within old len j i l))

  go : (j : ℕ) → j < count → IsGrown (bucket_at (rows_of old len count) j) (bucket_at (rows_of new len count) j)
  go j h = rw (row-at old len count j h, row-at new len count j h) (record { bits = same j; spare = let l = more.long in omega (arith, line-spare old len j, line-spare new len j) })

pub rows-room : (pages : List (PageOf ℕ)) (len count n : ℕ) → n + len ≤ 512 * length pages → All (λ row. n ≤ row.spare) (rows_of pages len count)
rows-room pages len count n room = bucket-All (λ (x : Row). n ≤ x.spare) (rows_of pages len count) (λ j h. go j (omega (arith, rows-length pages len count))) where
  go : (j : ℕ) → j < count → n ≤ (bucket_at (rows_of pages len count) j).spare
  go j h = rw (row-at pages len count j h) (omega (arith, line-spare pages len j))

pub rows-none : (pages : List (PageOf ℕ)) (count : ℕ) → All (λ row. length row.bits ≡ 0) (rows_of pages 0 count)
rows-none pages count = bucket-All (λ (x : Row). length x.bits ≡ 0) (rows_of pages 0 count) (λ j h. go j (omega (arith, rows-length pages 0 count))) where
  go : (j : ℕ) → j < count → length (bucket_at (rows_of pages 0 count) j).bits ≡ 0
  go j h = rw (row-at pages 0 count j h) (line-length pages 0 j)

pub lines-new : (count : ℕ) (pages : List (PageOf ℕ)) → pages ≡ [] → count < 2 ^ 20 → AreLines count 0 pages
lines-new count [] e h = record { each = All-nil (IsPageOf count); within = omega arith; small = omega arith; few = h; past = λ j r l m. bit-read [] j r ∙ bit-zero (r % 64) }
lines-new count (p ∷ ps) e h = cc

pub first-length : (pages : List (PageOf ℕ)) (len count : ℕ) → 1 ≤ count → length (bucket_at (rows_of pages len count) 0).bits ≡ len
first-length pages len count some = ap (λ (x : Row). length x.bits) (row-at pages len count 0 (omega arith)) ∙ line-length pages len 0

-- ---- pages of the same sizes

pub rows-equal : (a b : List Row) → length a ≡ length b → ((j : ℕ) → j < length a → bucket_at a j ≡ bucket_at b j) → a ≡ b
rows-equal a b long each = ext_get_or (record { bits = []; spare = 0 }) a b long each

pub sized-lines : (old new : List (PageOf ℕ)) (count len n : ℕ) → AreLines count len old → length new ≡ length old → ((p : ℕ) → length (words_at new p) ≡ length (words_at old p)) → n ≤ 512 * length new
    → ((j r : ℕ) → j < count → n ≤ r → line_bit new j r ≡ false) → AreLines count n new
sized-lines old new count len n are long sizes room past = record {
  each = All-from_get_or (IsPageOf count) new _ (λ p h. record { long = sizes p ∙ bit-length old count p are.each (omega arith) });
  within = room;
  small = let s = are.small in omega arith;
  few = are.few;
  past = past;
}

words-read : (pages : List (PageOf ℕ)) (p : ℕ) → get_or (map (λ page. page.items) pages) p [] ≡ words_at pages p
words-read [] p = refl
words-read (l ∷ ls) zero = refl
words-read (l ∷ ls) (suc p) = words-read ls p

pub same-words : (old new : List (PageOf ℕ)) → map (λ page. page.items) new ≡ map (λ page. page.items) old → (p : ℕ) → words_at new p ≡ words_at old p
same-words old new same p = sym (words-read new p) ∙ ap (λ ws. get_or ws p []) same ∙ words-read old p

same-bits : (old new : List (PageOf ℕ)) → map (λ page. page.items) new ≡ map (λ page. page.items) old → (j r : ℕ) → line_bit new j r ≡ line_bit old j r
same-bits old new same j r = bit-read new j r ∙ ap (λ ws. bit (slice_index ws (j * 8 + r % 512 / 64)) (r % 64)) (same-words old new same (r / 512)) ∙ sym (bit-read old j r)

pub more-same : (count : ℕ) (old pages new : List (PageOf ℕ)) → IsMore count old pages → map (λ page. page.items) new ≡ map (λ page. page.items) pages → IsMore count old new
more-same count old pages new more same =
    let l = copied-length new pages same in
    record {
      words = λ p x. ap (λ ws. slice_index ws x) (same-words pages new same p) ∙ more.words p x;
      long = let m = more.long in omega arith;
      each = λ each. All-from_get_or (IsPageOf count) new (record { items = []; own = true }) (λ p h. record { long = ap length (same-words pages new same p) ∙ bit-length pages count p (more.each each) (omega arith) });
    }

pub same-lines : (old new : List (PageOf ℕ)) (count len : ℕ) → map (λ page. page.items) new ≡ map (λ page. page.items) old → AreLines count len old → AreLines count len new
same-lines old new count len same are =
    let l = copied-length new old same in
    sized-lines old new count len len are l (λ p. ap length (same-words old new same p)) (let w = are.within in omega arith) (λ j r h l. same-bits old new same j r ∙ are.past j r h l)

pub bits-equal : (old new : List (PageOf ℕ)) (len j : ℕ) → ((r : ℕ) → r < len → line_bit new j r ≡ line_bit old j r) → (row_in new len j).bits ≡ (row_in old len j).bits
bits-equal old new len j each =
    ext_get_or false (row_in new len j).bits (row_in old len j).bits (line-length new len j ∙ sym (line-length old len j))
    (λ r h. let l : r < len = omega (arith, line-length new len j) in line-within new len j r l ∙ each r l ∙ sym (line-within old len j r l))

row-equal : (a b : Row) → a.bits ≡ b.bits → a.spare ≡ b.spare → a ≡ b
row-equal a b e f = ap (λ (xs : List Bool). record { bits = xs; spare = a.spare }) e ∙ ap (λ (n : ℕ). record { bits = b.bits; spare = n }) f

pub same-rows : (old new : List (PageOf ℕ)) (len count : ℕ) → map (λ page. page.items) new ≡ map (λ page. page.items) old → rows_of new len count ≡ rows_of old len count
same-rows old new len count same =
    rows-equal (rows_of new len count) (rows_of old len count) (rows-length new len count ∙ sym (rows-length old len count))
    (λ j h. let l : j < count = omega (arith, rows-length new len count) in
    row-at new len count j l
    ∙ row-equal (row_in new len j) (row_in old len j) (bits-equal old new len j (λ r m. same-bits old new same j r))
    (line-spare new len j ∙ ap (λ n. 512 * n - len) (copied-length new old same) ∙ sym (line-spare old len j))
    ∙ sym (row-at old len count j l))

-- ---- whose the pages are

owns-length : (pages : List (PageOf ℕ)) → length (owns_of pages) ≡ length pages
owns-length pages = length-map pages (λ (x : PageOf ℕ). x.own)

pub own-past : (pages : List (PageOf ℕ)) (p : ℕ) (d : Bool) → length pages ≤ p → get_or (owns_of pages) p d ≡ d
own-past pages p d h = get_or_past (owns_of pages) p d (omega (arith, owns-length pages))

pub own-there : (pages : List (PageOf ℕ)) (p : ℕ) (m : PageOf ℕ) (d : Bool) → p < length pages → get_or (owns_of pages) p d ≡ (get_or pages p m).own
own-there pages p m d h = get_or-map (λ (x : PageOf ℕ). x.own) pages p m d h

pub owned-none : (from : ℕ) (pages : List (PageOf ℕ)) → AreOwned from from pages
owned-none from pages = record { own = λ p low high. absurd (omega arith) }

pub all-common : (pages : List (PageOf ℕ)) → AreCommon (length pages) pages → OwnsNoPage (owns_of pages)
all-common pages common = record { each = λ p h. common.common p (omega (arith, owns-length pages)) }

pub owns-places : (pages : List (PageOf ℕ)) (from to p q : ℕ) → p ≤ from / 512 → (to + 511) / 512 ≤ q → AreOwned p q pages → OwnsPlaces from to (owns_of pages)
owns-places pages from to p q low high own = record { each = λ r a b. own.own (r / 512) (omega arith) (omega arith) }

pub owned-push : (pages : List (PageOf ℕ)) (from p : ℕ) (page : PageOf ℕ) → length pages ≡ p → page.own ≡ true → AreOwned from p pages → AreOwned from (p + 1) (pages ++ page ∷ [])
owned-push pages from p page long e own = record { own = λ q a b. go q a b (cases_lt q p) } where
  read : (q : ℕ) → q < length (pages ++ page ∷ []) → get_or (owns_of (pages ++ page ∷ [])) q true ≡ (get_or (pages ++ page ∷ []) q page).own
  read q h = own-there (pages ++ page ∷ []) q page true h

  go : (q : ℕ) → from ≤ q → q < p + 1 → (q < p) ⊎ (p ≤ q) → get_or (owns_of (pages ++ page ∷ [])) q true ≡ true
  go q a b (inl l) =
      read q (omega (arith, length-append pages (page ∷ []))) ∙ ap (λ (m : PageOf ℕ). m.own) (get_or_append_left pages (page ∷ []) page q (omega arith))
      ∙ sym (own-there pages q page true (omega arith)) ∙ own.own q a l
  go q a b (inr l) =
      let at : length pages ≡ q = omega arith in
      read q (omega (arith, length-append pages (page ∷ []))) ∙ ap (λ (m : PageOf ℕ). m.own) (get_or_push pages page page q at) ∙ e

-- ---- room

pub rows-rooms : (pages : List (PageOf ℕ)) (len count n : ℕ) → len ≤ 512 * length pages → n ≡ 512 * length pages → All (λ row. n ≡ length row.bits + row.spare) (rows_of pages len count)
rows-rooms pages len count n within e = bucket-All (λ (x : Row). n ≡ length x.bits + x.spare) (rows_of pages len count) (λ j h. go j (omega (arith, rows-length pages len count))) where
  go : (j : ℕ) → j < count → n ≡ length (bucket_at (rows_of pages len count) j).bits + (bucket_at (rows_of pages len count) j).spare
  go j h = rw (row-at pages len count j h) (omega (arith, line-length pages len j, line-spare pages len j))

-- if there is room for a place, the place has its page
pub room-page : (pages : List (PageOf ℕ)) (len count r : ℕ) → len ≤ 512 * length pages → IsWithinRoom r (rows_of pages len count) → r < 512 * length pages
room-page pages len count r within room = go (cases_lt 0 count) where
  go : (0 < count) ⊎ (count ≤ 0) → r < 512 * length pages
  go (inl h) =
      let a : length (bucket_at (rows_of pages len count) 0).bits ≡ len = ap (λ (x : Row). length x.bits) (row-at pages len count 0 h) ∙ line-length pages len 0 in
      let b : (bucket_at (rows_of pages len count) 0).spare ≡ 512 * length pages - len = ap (λ (x : Row). x.spare) (row-at pages len count 0 h) ∙ line-spare pages len 0 in
      let l = room.room in
      omega arith
  go (inr h) =
      let none : bucket_at (rows_of pages len count) 0 ≡ record { bits = []; spare = 0 } = get_or_past (rows_of pages len count) 0 _ (omega (arith, rows-length pages len count)) in
      let a : length (bucket_at (rows_of pages len count) 0).bits ≡ 0 = ap (λ (x : Row). length x.bits) none in
      let b : (bucket_at (rows_of pages len count) 0).spare ≡ 0 = ap (λ (x : Row). x.spare) none in
      let l = room.room in
      absurd (omega arith)

-- ---- pages without rules

bits-none : (count : ℕ) (pages : List (PageOf ℕ)) → IsMore count [] pages → (j r : ℕ) → line_bit pages j r ≡ false
bits-none count pages more j r = bit-read pages j r ∙ ap (λ w. bit w (r % 64)) (more.words (r / 512) (j * 8 + r % 512 / 64)) ∙ bit-zero (r % 64)

pub lines-zero : (count len : ℕ) (old pages : List (PageOf ℕ)) → old ≡ [] → IsMore count old pages → count < 2 ^ 20 → len ≤ 512 * length pages → 512 * length pages < 2 ^ 32 → AreLines count len pages
lines-zero count len [] pages e more few room small = record { each = more.each (All-nil (IsPageOf count)); within = room; small = small; few = few; past = λ j r h l. bits-none count pages more j r }
lines-zero count len (p ∷ ps) pages e more few room small = cc

pub rows-zero : (count len : ℕ) (old pages : List (PageOf ℕ)) → old ≡ [] → IsMore count old pages → All (λ row. row.bits ≡ replicate len false) (rows_of pages len count)
rows-zero count len [] pages e more = bucket-All (λ (x : Row). x.bits ≡ replicate len false) (rows_of pages len count) (λ j h. go j (omega (arith, rows-length pages len count))) where
  go : (j : ℕ) → j < count → (bucket_at (rows_of pages len count) j).bits ≡ replicate len false
  go j h = rw (row-at pages len count j h) (ext_get_or false (row_in pages len j).bits (replicate len false) (line-length pages len j ∙ sym (length-replicate len false))
      (λ r l. let m : r < len = omega (arith, line-length pages len j) in line-within pages len j r m ∙ bits-none count pages more j r ∙ sym (get_or-replicate len r false false m)))
rows-zero count len (p ∷ ps) pages e more = cc

-- ---- of each row

pub row-length : (pages : List (PageOf ℕ)) (len count j : ℕ) → j < count → length (bucket_at (rows_of pages len count) j).bits ≡ len
row-length pages len count j h = ap (λ (x : Row). length x.bits) (row-at pages len count j h) ∙ line-length pages len j

pub first-within : (pages : List (PageOf ℕ)) (len count n : ℕ) → 1 ≤ count → All (λ row. n ≤ length row.bits) (rows_of pages len count) → n ≤ len
first-within pages len count n some all =
    let h : n ≤ length (bucket_at (rows_of pages len count) 0).bits = All-bucket (λ (x : Row). n ≤ length x.bits) (rows_of pages len count) 0 all (omega (arith, rows-length pages len count)) in
    omega (arith, h, row-length pages len count 0 (omega arith))

-- pages of places are pages
pub owned-from : (pages : List (PageOf ℕ)) (first len q : ℕ) → first < len → 512 * q < len + 512 → OwnsPlaces first len (owns_of pages) → AreOwned (first / 512) q pages
owned-from pages first len q some high own = record { own = λ p a b. go p a b (cases_lt (512 * p) first) } where
  go : (p : ℕ) → first / 512 ≤ p → p < q → (512 * p < first) ⊎ (first ≤ 512 * p) → get_or (owns_of pages) p true ≡ true
  go p a b (inl l) = let at : first / 512 ≡ p = omega arith in ap (λ k. get_or (owns_of pages) k true) (sym at) ∙ own.each first (omega arith) some
  go p a b (inr l) = let at : 512 * p / 512 ≡ p = omega arith in ap (λ k. get_or (owns_of pages) k true) (sym at) ∙ own.each (512 * p) l (omega arith)
