-- Lines of marks.
use Rattle.std.proofs.Common.{◌≡◌, refl, sym, ◌∙◌, ap, ℕ, zero, suc, ◌+◌, ◌-◌, ◌*◌, ◌/◌, ◌%◌, ◌^◌, ◌<◌, ◌≤◌, ◌⊎◌, inl, inr, Bool, true, false, ◌&&◌, ◌||◌, not, ◌==◌, nat_le, nat_lt, List, length, arith, bit_or, bit_and}
use Rattle.std.specs.Prelude.{slice_index}
use mir.Val.{bool_byte}
use Rattle.std.proofs.Math.ListN.{set, length-set}
use Rattle.std.proofs.lemmas.List.{get_or-set_same, get_or-set_other}
use Rattle.std.proofs.lemmas.Bool.{cases_lt, lt-ltb, le-ltb}
use Rattle.std.proofs.lemmas.Bool.Decides.{nat_tests}
use Rattle.std.proofs.Math.Bool.{and-true, and-false}
use Rattle.std.proofs.Math.Nat.{mod-lt}
use Rattle.std.proofs.lemmas.Nat.{div-add-mod', pow_pos, le-div}
use Rattle.std.proofs.lemmas.Nat.Bits.{bit_at_cat_low, bit_at_cat_high}
use Rattle.bit_rows.specs.Row.{bit}
use Rattle.bit_rows.proofs.Bits.{bit-or, bit-and, bit-shl, bit-shr, bit-zero, bit-ones, bit-low_ones}
use Rattle.bit_rows.proofs.Marked.{bit-one, same_or_not, leb, not-leb, or-unset, or-set}
use Rattle.set_model.specs.declared.block.Block.{Block}
use Rattle.field_groups.specs.Groups.{IsWidth, every, group, agrees, fixed, first_agreeing, agreeing_count}
use Rattle.field_groups.specs.LastFour.{AreLastFour}
use Rattle.field_groups.specs.declared.places.LastFour.{LastFour}
use Rattle.field_groups.proofs.RunLaws.{agrees-run}
use Rattle.std.proofs.lemmas.Bool.{and_parts, leb-true, ltb-true}
use Rattle.word_summary.specs.Marks.{share, HasNewMarks, IsPageMarked, ClearsNone, is_candidate, IsSingle, AreCandidates}

-- ---- one mark

pub shares : (word : ℕ) → (word ≡ 0 → ⊥) → not (word == 0) ≡ true
shares word some = grind (arith, nat_tests, some)

pub shares-none : (word : ℕ) → word ≡ 0 → not (word == 0) ≡ false
shares-none word none = ap (λ n. not (n == 0)) none

and-true-both : (a b : Bool) → a ≡ true → b ≡ true → (a && b) ≡ true
and-true-both a b x y = cc

-- words with a common bit
pub share-bit : (a b k : ℕ) → bit a k ≡ true → bit b k ≡ true → share a b ≡ true
share-bit a b k x y = shares (bit_and a b) (λ none. go (sym (bit-zero k) ∙ sym (ap (λ w. bit w k) none) ∙ bit-and a b k ∙ and-true-both (bit a k) (bit b k) x y)) where
  go : false ≡ true → ⊥
  go e = absurd (cc e)

-- ---- one line

-- a word whose n bits from `first` on are made anew
pub run-bits : (word first n marks i : ℕ) → first < 64 → first + n ≤ 64 → i < 64
    → bit (bit_or (bit_and word (1 * 2 ^ first % 2 ^ 64 - 1)) (bit_or (word / 2 ^ first / 2 ^ n * 2 ^ n % 2 ^ 64) marks * 2 ^ first % 2 ^ 64)) i
    ≡ ((bit word i && nat_lt i first) || (nat_le first i && ((nat_le n (i - first) && bit word (first + (n + (i - first - n)))) || bit marks (i - first))))
run-bits word first n marks i low h l =
    bit-or (bit_and word (1 * 2 ^ first % 2 ^ 64 - 1)) (bit_or (word / 2 ^ first / 2 ^ n * 2 ^ n % 2 ^ 64) marks * 2 ^ first % 2 ^ 64) i
    ∙ ap (λ t. t || bit (bit_or (word / 2 ^ first / 2 ^ n * 2 ^ n % 2 ^ 64) marks * 2 ^ first % 2 ^ 64) i)
    (bit-and word (1 * 2 ^ first % 2 ^ 64 - 1) i ∙ ap (λ t. bit word i && t) (bit-low_ones first i (omega arith)))
    ∙ ap (λ t. (bit word i && nat_lt i first) || t)
    (bit-shl (bit_or (word / 2 ^ first / 2 ^ n * 2 ^ n % 2 ^ 64) marks) first i l
    ∙ ap (λ t. nat_le first i && t) (bit-or (word / 2 ^ first / 2 ^ n * 2 ^ n % 2 ^ 64) marks (i - first)
    ∙ ap (λ t. t || bit marks (i - first))
    (bit-shl (word / 2 ^ first / 2 ^ n) n (i - first) (omega arith)
    ∙ ap (λ t. nat_le n (i - first) && t) (bit-shr (word / 2 ^ first) n (i - first - n) ∙ bit-shr word first (n + (i - first - n))))))

run-below : (word first n marks i : ℕ) → first < 64 → first + n ≤ 64 → i < first → bit (bit_or (bit_and word (1 * 2 ^ first % 2 ^ 64 - 1)) (bit_or (word / 2 ^ first / 2 ^ n * 2 ^ n % 2 ^ 64) marks * 2 ^ first % 2 ^ 64)) i ≡ bit word i
run-below word first n marks i low h l =
    run-bits word first n marks i low h (omega arith)
    ∙ ap (λ t. (bit word i && t) || (nat_le first i && ((nat_le n (i - first) && bit word (first + (n + (i - first - n)))) || bit marks (i - first)))) (lt-ltb i first l)
    ∙ ap (λ t. (bit word i && true) || (t && ((nat_le n (i - first) && bit word (first + (n + (i - first - n)))) || bit marks (i - first)))) (not-leb first i l)
    ∙ or-unset (bit word i && true) false refl ∙ and-true (bit word i)

run-here : (word first n marks k : ℕ) → first + n ≤ 64 → k < n → bit (bit_or (bit_and word (1 * 2 ^ first % 2 ^ 64 - 1)) (bit_or (word / 2 ^ first / 2 ^ n * 2 ^ n % 2 ^ 64) marks * 2 ^ first % 2 ^ 64)) (first + k) ≡ bit marks k
run-here word first n marks k h l =
    let e : first + k - first ≡ k = omega arith in
    run-bits word first n marks (first + k) (omega arith) h (omega arith)
    ∙ ap (λ t. (bit word (first + k) && t) || (nat_le first (first + k) && ((nat_le n (first + k - first) && bit word (first + (n + (first + k - first - n)))) || bit marks (first + k - first)))) (le-ltb (first + k) first (omega arith))
    ∙ ap (λ t. t || (nat_le first (first + k) && ((nat_le n (first + k - first) && bit word (first + (n + (first + k - first - n)))) || bit marks (first + k - first)))) (and-false (bit word (first + k)))
    ∙ ap (λ t. t && ((nat_le n (first + k - first) && bit word (first + (n + (first + k - first - n)))) || bit marks (first + k - first))) (leb first (first + k) (omega arith))
    ∙ ap (λ t. (t && bit word (first + (n + (first + k - first - n)))) || bit marks (first + k - first)) (not-leb n (first + k - first) (omega arith))
    ∙ ap (bit marks) e

run-above : (word first n marks i : ℕ) → first + n ≤ i → i < 64 → bit marks (i - first) ≡ false → bit (bit_or (bit_and word (1 * 2 ^ first % 2 ^ 64 - 1)) (bit_or (word / 2 ^ first / 2 ^ n * 2 ^ n % 2 ^ 64) marks * 2 ^ first % 2 ^ 64)) i ≡ bit word i
run-above word first n marks i low high small =
    let e : first + (n + (i - first - n)) ≡ i = omega arith in
    run-bits word first n marks i (omega arith) (omega arith) high
    ∙ ap (λ t. (bit word i && t) || (nat_le first i && ((nat_le n (i - first) && bit word (first + (n + (i - first - n)))) || bit marks (i - first)))) (le-ltb i first (omega arith))
    ∙ ap (λ t. t || (nat_le first i && ((nat_le n (i - first) && bit word (first + (n + (i - first - n)))) || bit marks (i - first)))) (and-false (bit word i))
    ∙ ap (λ t. t && ((nat_le n (i - first) && bit word (first + (n + (i - first - n)))) || bit marks (i - first))) (leb first i (omega arith))
    ∙ ap (λ t. (t && bit word (first + (n + (i - first - n)))) || bit marks (i - first)) (leb n (i - first) (omega arith))
    ∙ or-unset (bit word (first + (n + (i - first - n)))) (bit marks (i - first)) small
    ∙ ap (bit word) e

pub line-marked : (old : List ℕ) (line first n marks : ℕ) → line < length old → first < 64 → first + n ≤ 64 → ((k : ℕ) → n ≤ k → k < 64 → bit marks k ≡ false)
    → HasNewMarks line first n marks old (set old line (bit_or (bit_and (slice_index old line) (1 * 2 ^ first % 2 ^ 64 - 1)) (bit_or (slice_index old line / 2 ^ first / 2 ^ n * 2 ^ n % 2 ^ 64) marks * 2 ^ first % 2 ^ 64)))
line-marked old line first n marks h low within small = record {
  long = length-set old line _;
  others = λ i out. get_or-set_other old line i _ 0 out;
  below = λ k l. here k ∙ run-below (slice_index old line) first n marks k low within l;
  above = λ k l m. here k ∙ run-above (slice_index old line) first n marks k l m (small (k - first) (omega arith) (omega arith));
  here = λ k l. here (first + k) ∙ run-here (slice_index old line) first n marks k within l;
} where
  here : (k : ℕ) → bit (slice_index (set old line (bit_or (bit_and (slice_index old line) (1 * 2 ^ first % 2 ^ 64 - 1)) (bit_or (slice_index old line / 2 ^ first / 2 ^ n * 2 ^ n % 2 ^ 64) marks * 2 ^ first % 2 ^ 64))) line) k
      ≡ bit (bit_or (bit_and (slice_index old line) (1 * 2 ^ first % 2 ^ 64 - 1)) (bit_or (slice_index old line / 2 ^ first / 2 ^ n * 2 ^ n % 2 ^ 64) marks * 2 ^ first % 2 ^ 64)) k
  here k = ap (λ x. bit x k) (get_or-set_same old line _ 0 h)

-- ---- a page's mark

-- whether a line has a mark, as a word
pub one-mark : (some : Bool) (i : ℕ) → bit (bool_byte some) i ≡ (nat_lt i 1 && some)
one-mark true i = bit-ones 1 i ∙ sym (and-true (nat_lt i 1))
one-mark false i = bit-zero i ∙ sym (and-false (nat_lt i 1))

pub page-none : (k : ℕ) (lines old : List ℕ) → IsPageMarked k 0 lines old old
page-none k lines old = record { long = refl; here = λ j h. absurd (omega arith); others = λ j i h differs. refl }

pub page-more : (k j mark : ℕ) (lines old top new : List ℕ) → bit mark 0 ≡ not (slice_index lines j == 0) → HasNewMarks j k 1 mark top new → IsPageMarked k j lines old top → IsPageMarked k (j + 1) lines old new
page-more k j mark lines old top new is marked so_far = record {
  long = marked.long ∙ so_far.long;
  here = λ i h. here i h (same_or_not i j);
  others = λ i m h differs. others i m h differs (same_or_not i j) (same_or_not m k);
} where
  here : (i : ℕ) → i < j + 1 → (i ≡ j) ⊎ ((i < j) ⊎ (j < i)) → bit (slice_index new i) k ≡ not (slice_index lines i == 0)
  here i h (inl e) =
      let at : k + 0 ≡ k = omega arith in
      ap (λ x. bit (slice_index new x) k) e ∙ ap (bit (slice_index new j)) (sym at) ∙ marked.here 0 (omega arith) ∙ is ∙ ap (λ x. not (slice_index lines x == 0)) (sym e)
  here i h (inr (inl l)) = ap (λ x. bit x k) (marked.others i (λ e. absurd (omega arith))) ∙ so_far.here i l
  here i h (inr (inr l)) = absurd (omega arith)

  line : (m : ℕ) → m < 64 → (m ≡ k → ⊥) → (m ≡ k) ⊎ ((m < k) ⊎ (k < m)) → bit (slice_index new j) m ≡ bit (slice_index top j) m
  line m h differs (inl e) = absurd (differs e)
  line m h differs (inr (inl l)) = marked.below m l
  line m h differs (inr (inr l)) = marked.above m (omega arith) h

  others : (i m : ℕ) → m < 64 → (m ≡ k → ⊥) → (i ≡ j) ⊎ ((i < j) ⊎ (j < i)) → (m ≡ k) ⊎ ((m < k) ⊎ (k < m)) → bit (slice_index new i) m ≡ bit (slice_index old i) m
  others i m h differs (inl e) where_m = ap (λ x. bit (slice_index new x) m) e ∙ line m h differs where_m ∙ ap (λ x. bit (slice_index top x) m) (sym e) ∙ so_far.others i m h differs
  others i m h differs (inr (inl l)) where_m = ap (λ x. bit x m) (marked.others i (λ e. absurd (omega arith))) ∙ so_far.others i m h differs
  others i m h differs (inr (inr l)) where_m = ap (λ x. bit x m) (marked.others i (λ e. absurd (omega arith))) ∙ so_far.others i m h differs

-- ---- a block's lines

pub keeps-none : (old : List ℕ) → ClearsNone old old
keeps-none old = record { long = refl; marks = λ j i h. h }

pub keeps-both : (old lines new : List ℕ) → ClearsNone old lines → ClearsNone lines new → ClearsNone old new
keeps-both old lines new first second = record { long = second.long ∙ first.long; marks = λ j i h. second.marks j i (first.marks j i h) }

pub keeps-set : (old : List ℕ) (j m : ℕ) → j < length old → ClearsNone old (set old j (bit_or (slice_index old j) m))
keeps-set old j m h = record { long = length-set old j (bit_or (slice_index old j) m); marks = λ i n s. go i n s (same_or_not i j) } where
  go : (i n : ℕ) → bit (slice_index old i) n ≡ true → (i ≡ j) ⊎ ((i < j) ⊎ (j < i)) → bit (slice_index (set old j (bit_or (slice_index old j) m)) i) n ≡ true
  go i n s (inl same) =
      let before : bit (slice_index old j) n ≡ true = ap (λ x. bit (slice_index old x) n) (sym same) ∙ s in
      ap (λ x. bit (slice_index (set old j (bit_or (slice_index old j) m)) x) n) same
      ∙ ap (λ x. bit x n) (get_or-set_same old j (bit_or (slice_index old j) m) 0 h) ∙ bit-or (slice_index old j) m n ∙ ap (λ t. t || bit m n) before
  go i n s (inr (inl l)) = ap (λ x. bit x n) (get_or-set_other old j i (bit_or (slice_index old j) m) 0 (omega arith)) ∙ s
  go i n s (inr (inr l)) = ap (λ x. bit x n) (get_or-set_other old j i (bit_or (slice_index old j) m) 0 (omega arith)) ∙ s

pub set-there : (old : List ℕ) (j k : ℕ) → j < length old → k < 64 → bit (slice_index (set old j (bit_or (slice_index old j) (1 * 2 ^ k % 2 ^ 64))) j) k ≡ true
set-there old j k h l =
    ap (λ x. bit x k) (get_or-set_same old j (bit_or (slice_index old j) (1 * 2 ^ k % 2 ^ 64)) 0 h) ∙ bit-or (slice_index old j) (1 * 2 ^ k % 2 ^ 64) k
    ∙ or-set (bit (slice_index old j) k) (bit (1 * 2 ^ k % 2 ^ 64) k) (bit-one k k l ∙ ap (λ t. t && nat_lt (k - k) 1) (leb k k (omega arith)) ∙ lt-ltb (k - k) 1 (omega arith))

-- a line that is among those up to this one
pub same-line : (old new : List ℕ) (w k j : ℕ) → ClearsNone old new → bit (slice_index new w) k ≡ true → (j < w → bit (slice_index old j) k ≡ true) → j < w + 1 → bit (slice_index new j) k ≡ true
same-line old new w k j keeps here before h = go (cases_lt j w) where
  go : (j < w) ⊎ (w ≤ j) → bit (slice_index new j) k ≡ true
  go (inl l) = keeps.marks j k (before l)
  go (inr l) = let e : j ≡ w = omega arith in ap (λ x. bit (slice_index new x) k) e ∙ here

-- the lines of byte n that agree with a block
pub run-lines : (bits n base mask v : ℕ) (block : Block) → base ≡ group 8 bits n block.base → mask ≡ fixed 8 bits n block → v < 256 → agrees 8 bits block n v ≡ true
    → (n * 256 + bit_and base mask ≤ n * 256 + v) × (n * 256 + v < n * 256 + bit_and base mask + 256 - mask)
run-lines bits n base mask v block e f h a =
    let s = and_parts _ _ (sym (agrees-run 8 bits n block v h) ∙ a) in
    let low = leb-true (first_agreeing 8 bits n block) v s.0 in
    let high = ltb-true v (first_agreeing 8 bits n block + agreeing_count 8 bits n block) s.1 in
    rw (e, f) (omega (arith, low), omega (arith, low, high))

-- ---- candidates

every-at : (p : ℕ → Bool) (n g : ℕ) → g < n → every p n ≡ true → p g ≡ true
every-at p zero g h all = absurd (omega arith)
every-at p (suc n) g h all = go (cases_lt g n) (λ l. every-at p n g l (and_parts (every p n) (p n) all).0) where
  go : (g < n) ⊎ (n ≤ g) → (g < n → p g ≡ true) → p g ≡ true
  go (inl l) before = before l
  go (inr l) before = let e : g ≡ n = omega arith in ap p e ∙ (and_parts (every p n) (p n) all).1

every-from : (p : ℕ → Bool) (n : ℕ) → ((g : ℕ) → g < n → p g ≡ true) → every p n ≡ true
every-from p zero each = refl
every-from p (suc n) each = and-true-both (every p n) (p n) (every-from p n (λ g h. each g (omega arith))) (each n (omega arith))

-- What is left after byte n: each candidate, and only words that are marked for each byte from byte
-- n on.
pub record AreLeft (bits n : ℕ) (page : List ℕ) (value left : ℕ) : Type 0 where
  pub all : (k : ℕ) → k < 64 → is_candidate bits page value k ≡ true → bit left k ≡ true
  pub marked : (k g : ℕ) → k < 64 → n ≤ g → g < bits / 8 → bit left k ≡ true → bit (slice_index page (g * 256 + group 8 bits g value)) k ≡ true

-- the lines of the last four bytes
pub left-last : (bits : ℕ) (page : List ℕ) (value : ℕ) (last : LastFour) → IsWidth 8 bits → AreLastFour 8 bits value last
    → AreLeft bits last.rest page value (bit_and (bit_and (bit_and (slice_index page last.fourth) (slice_index page last.third)) (slice_index page last.second)) (slice_index page last.last))
left-last bits page value last w are = record {
  all = λ k h c. in-all k ∙ and-true-both _ _ (and-true-both _ _ (and-true-both _ _ (in-line (bits / 8 - 4) last.fourth k are.four.at (omega (arith, some)) c) (in-line (bits / 8 - 3) last.third k are.three.at (omega (arith, some)) c)) (in-line (bits / 8 - 2) last.second k are.two.at (omega (arith, some)) c)) (in-line (bits / 8 - 1) last.last k are.one.at (omega (arith, some)) c);
  marked = λ k g h low l set.
      let parts = and_parts _ _ (sym (in-all k) ∙ set) in
      let three = and_parts _ _ parts.0 in
      let two = and_parts _ _ three.0 in
      let few = are.rest in
      one k g (cases_lt g (bits / 8 - 3)) (cases_lt g (bits / 8 - 2)) (cases_lt g (bits / 8 - 1)) (omega (arith, low, few)) l two.0 two.1 three.1 parts.1;
} where
  some : 1 ≤ bits / 8
  some = le-div 1 bits 8 (omega arith) (omega (arith, w.some))

  in-all : (k : ℕ) → bit (bit_and (bit_and (bit_and (slice_index page last.fourth) (slice_index page last.third)) (slice_index page last.second)) (slice_index page last.last)) k
      ≡ (((bit (slice_index page last.fourth) k && bit (slice_index page last.third) k) && bit (slice_index page last.second) k) && bit (slice_index page last.last) k)
  in-all k =
      bit-and (bit_and (bit_and (slice_index page last.fourth) (slice_index page last.third)) (slice_index page last.second)) (slice_index page last.last) k
      ∙ ap (λ t. t && bit (slice_index page last.last) k)
      (bit-and (bit_and (slice_index page last.fourth) (slice_index page last.third)) (slice_index page last.second) k
      ∙ ap (λ t. t && bit (slice_index page last.second) k) (bit-and (slice_index page last.fourth) (slice_index page last.third) k))

  in-line : (g place k : ℕ) → place ≡ g * 2 ^ 8 + group 8 bits g value → g < bits / 8 → is_candidate bits page value k ≡ true → bit (slice_index page place) k ≡ true
  in-line g place k at within c = ap (λ p. bit (slice_index page p) k) at ∙ every-at (λ i. bit (slice_index page (i * 256 + group 8 bits i value)) k) (bits / 8) g within c

  of-line : (g i place k : ℕ) → place ≡ i * 2 ^ 8 + group 8 bits i value → g ≡ i → bit (slice_index page place) k ≡ true → bit (slice_index page (g * 256 + group 8 bits g value)) k ≡ true
  of-line g i place k at same set = ap (λ x. bit (slice_index page (x * 256 + group 8 bits x value)) k) same ∙ sym (ap (λ p. bit (slice_index page p) k) at) ∙ set

  one : (k g : ℕ) → (g < bits / 8 - 3) ⊎ (bits / 8 - 3 ≤ g) → (g < bits / 8 - 2) ⊎ (bits / 8 - 2 ≤ g) → (g < bits / 8 - 1) ⊎ (bits / 8 - 1 ≤ g) → bits / 8 - 4 ≤ g → g < bits / 8
      → bit (slice_index page last.fourth) k ≡ true → bit (slice_index page last.third) k ≡ true → bit (slice_index page last.second) k ≡ true → bit (slice_index page last.last) k ≡ true
      → bit (slice_index page (g * 256 + group 8 bits g value)) k ≡ true
  one k g (inl x) y z low l a b c d = of-line g (bits / 8 - 4) last.fourth k are.four.at (omega arith) a
  one k g (inr x) (inl y) z low l a b c d = of-line g (bits / 8 - 3) last.third k are.three.at (omega arith) b
  one k g (inr x) (inr y) (inl z) low l a b c d = of-line g (bits / 8 - 2) last.second k are.two.at (omega arith) c
  one k g (inr x) (inr y) (inr z) low l a b c d = of-line g (bits / 8 - 1) last.last k are.one.at (omega arith) d

pub left-more : (bits n g v : ℕ) (page : List ℕ) (value left : ℕ) → g + 1 ≡ n → g < bits / 8 → v ≡ group 8 bits g value → AreLeft bits n page value left → AreLeft bits g page value (bit_and left (slice_index page (g * 256 + v)))
left-more bits n g v page value left next within is so_far = record {
  all = λ k h c.
      bit-and left (slice_index page (g * 256 + v)) k
      ∙ and-true-both (bit left k) (bit (slice_index page (g * 256 + v)) k) (so_far.all k h c) (ap (λ x. bit (slice_index page (g * 256 + x)) k) is ∙ every-at (λ i. bit (slice_index page (i * 256 + group 8 bits i value)) k) (bits / 8) g within c);
  marked = λ k i h low l set.
      let parts = and_parts (bit left k) (bit (slice_index page (g * 256 + v)) k) (sym (bit-and left (slice_index page (g * 256 + v)) k) ∙ set) in
      one k i h low l parts.0 parts.1 (cases_lt g i);
} where
  one : (k i : ℕ) → k < 64 → g ≤ i → i < bits / 8 → bit left k ≡ true → bit (slice_index page (g * 256 + v)) k ≡ true → (g < i) ⊎ (i ≤ g) → bit (slice_index page (i * 256 + group 8 bits i value)) k ≡ true
  one k i h low l before here (inl m) = so_far.marked k i h (omega arith) l before
  one k i h low l before here (inr m) =
      let e : i ≡ g = omega arith in
      ap (λ x. bit (slice_index page (x * 256 + group 8 bits x value)) k) e ∙ ap (λ x. bit (slice_index page (g * 256 + x)) k) (sym is) ∙ here

-- all bytes
pub left-all : (bits : ℕ) (page : List ℕ) (value left : ℕ) → AreLeft bits 0 page value left → AreCandidates bits page value left
left-all bits page value left so_far = record {
  all = so_far.all;
  two = λ j k order h a b. and-true-both _ _ (one j (omega arith) a) (one k h b);
} where
  one : (k : ℕ) → k < 64 → bit left k ≡ true → is_candidate bits page value k ≡ true
  one k h set = every-from (λ g. bit (slice_index page (g * 256 + group 8 bits g value)) k) (bits / 8) (λ g l. so_far.marked k g h (omega arith) l set)

-- at most one word
pub left-single : (bits n : ℕ) (page : List ℕ) (value left : ℕ) → IsSingle left → AreLeft bits n page value left → AreCandidates bits page value left
left-single bits n page value left single so_far = record { all = so_far.all; two = λ j k order h a b. absurd (single.one j k order a b) }

low-bit : (a n r k : ℕ) → k < n → bit (a * 2 ^ n + r) k ≡ bit r k
unfolding bit
low-bit a n r k h = ap (λ x. x == 1) (bit_at_cat_low a n r k h)

high-bit : (a n r : ℕ) → r < 2 ^ n → bit (a * 2 ^ n + r) n ≡ bit a 0
unfolding bit
high-bit a n r h = let e : n - n ≡ 0 = omega arith in ap (λ x. x == 1) (bit_at_cat_high a n r n h (omega arith)) ∙ ap (bit a) e

unset : (k : ℕ) → bit 0 k ≡ true → ⊥
unset k set = go (sym (bit-zero k) ∙ set) where
  go : false ≡ true → ⊥
  go e = absurd (cc e)

-- the number one below a word has the word's bits above its lowest one
one-less : (word j k : ℕ) → j < k → bit word j ≡ true → bit (word - 1) k ≡ bit word k
one-less word j k order set = go (cases_lt 0 (word % 2 ^ k)) where
  whole : word / 2 ^ k * 2 ^ k + word % 2 ^ k ≡ word
  whole = div-add-mod' word (2 ^ k)

  small : word % 2 ^ k < 2 ^ k
  small = mod-lt word (pow_pos k)

  go : (0 < word % 2 ^ k) ⊎ (word % 2 ^ k ≤ 0) → bit (word - 1) k ≡ bit word k
  go (inl some) =
      let less : word / 2 ^ k * 2 ^ k + (word % 2 ^ k - 1) ≡ word - 1 = omega (arith, whole, some) in
      ap (λ n. bit n k) (sym less) ∙ high-bit (word / 2 ^ k) k (word % 2 ^ k - 1) (omega (arith, small)) ∙ sym (high-bit (word / 2 ^ k) k (word % 2 ^ k) small) ∙ ap (λ n. bit n k) whole
  go (inr none) =
      let empty : word % 2 ^ k ≡ 0 = omega (arith, none) in
      absurd (unset j (ap (λ n. bit n j) (sym empty) ∙ sym (low-bit (word / 2 ^ k) k (word % 2 ^ k) j order) ∙ ap (λ n. bit n j) whole ∙ set))

pub no-word : (word : ℕ) → (word == 0) ≡ true → word ≡ 0
no-word word none = grind (arith, nat_tests, none)

pub single : (word less : ℕ) → (1 ≤ word → less ≡ word - 1) → bit_and word less ≡ 0 → IsSingle word
single word less is none = record { one = λ j k order a b. unset k (ap (λ n. bit n k) (sym none) ∙ bit-and word less k ∙ and-true-both (bit word k) (bit less k) b (ap (λ n. bit n k) (is (some j a)) ∙ one-less word j k order a ∙ b)) } where
  some : (j : ℕ) → bit word j ≡ true → 1 ≤ word
  some j a = go (cases_lt 0 word) where
    go : (0 < word) ⊎ (word ≤ 0) → 1 ≤ word
    go (inl l) = l
    go (inr l) = let empty : word ≡ 0 = omega arith in absurd (unset j (ap (λ n. bit n j) (sym empty) ∙ a))
