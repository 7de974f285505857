-- The summary of a table as it is made, and what it leaves out.
use Rattle.std.proofs.Common.{◌≡◌, refl, sym, ◌∙◌, ap, subst, ℕ, zero, suc, ◌+◌, ◌-◌, All, ◌*◌, ◌/◌, ◌%◌, ◌^◌, ◌<◌, ◌≤◌, ◌⊎◌, inl, inr, Bool, true, false, ◌&&◌, nat_lt, List, [], ◌∷◌, ◌++◌, length, get_or, map, take, drop, replicate, set, arith, bit_and}
use Rattle.std.specs.Prelude.{slice_index}
use Rattle.std.proofs.lemmas.Bool.{cases_lt, cases_eq, lt-ltb, le-ltb, ltb-true}
use Rattle.std.proofs.lemmas.List.{get_or_past, get_or_append_left, get_or_push, length_push, length-replicate, get_or-take, length-take, get_or-set_same, get_or-set_other, length-set, get_or_default, get_or-append_right, get_or-replicate}
use Rattle.std.proofs.lemmas.List.Elements.{All-get_or}
use Rattle.std.proofs.lemmas.Bool.{and_parts}
use Rattle.set_model.specs.declared.block.Block.{Block}
use Rattle.set_model.specs.Blocks.{holds_value, IsWithin}
use Rattle.bit_rows.specs.Row.{Row, at, bit}
use Rattle.bit_rows.proofs.Bits.{bit-and}
use Rattle.field_groups.specs.Groups.{agrees, group, every, IsWidth}
use Rattle.field_groups.proofs.GroupLaws.{groups-hold, group-below}
use Rattle.field_groups.proofs.HalfLaws.{agrees-halves}
use Rattle.shared_pages.specs.Paged.{PageOf, owns_of}
use Rattle.word_summary.specs.Marks.{IsMarkPage, HasNewMarks, IsWordMarked, is_candidate, share}
use Rattle.word_summary.proofs.MarkLaws.{share-bit}
use Rattle.lookup_table.specs.Table.{bucket_at, cell, IsShaped, block_at, StandsFor}
use Rattle.lookup_table.specs.Lines.{words_at, IsPage, IsWithinRoom}
use Rattle.lookup_table.specs.Rows.{Each, IsRaised, IsClosedUp, IsGrown, KeepsCells, HasNoRulesFrom, HasOnly}
use Rattle.lookup_table.specs.Summary.{upper_place, lower_place, agrees_at, HasMarks, ArePages, IsSummed, KeepsMarks, IsMarkSet, AreRulesMarked}
use Rattle.shared_pages.proofs.PageLaws.{copied-length}
use Rattle.lookup_table.proofs.LineLaws.{same-words}
use Rattle.lookup_table.proofs.RowsLaws.{cell-is, All-bucket}

pub same-lt : (a b c d : ℕ) → (a < b → c < d) → (c < d → a < b) → nat_lt a b ≡ nat_lt c d
same-lt a b c d there back = go (cases_lt a b) (cases_lt c d) where
  go : (a < b) ⊎ (b ≤ a) → (c < d) ⊎ (d ≤ c) → nat_lt a b ≡ nat_lt c d
  go (inl x) y = lt-ltb a b x ∙ sym (lt-ltb c d (there x))
  go (inr x) (inl y) = absurd (let z = back y in omega arith)
  go (inr x) (inr y) = le-ltb a b x ∙ sym (le-ltb c d y)

-- ---- places

eight-or-four : (width bits : ℕ) → IsWidth width bits → (width ≡ 8) ⊎ (width ≡ 4)
eight-or-four width bits w = go (cases_lt width 8) where
  go : (width < 8) ⊎ (8 ≤ width) → (width ≡ 8) ⊎ (width ≡ 4)
  go (inl h) = inr (omega (arith, w.fours, w.four))
  go (inr h) = inl (omega (arith, w.eight))

pub upper-within : (width bits j : ℕ) (buckets : List Row) → IsWidth width bits → length buckets ≡ bits / width * 2 ^ width → j < bits / 8 * 256 → upper_place width j < length buckets
upper-within width bits j buckets w count h = go (eight-or-four width bits w) where
  go : (width ≡ 8) ⊎ (width ≡ 4) → upper_place width j < length buckets
  go (inl e) =
      let n : length buckets ≡ bits / 8 * 256 = rw e at count in
      rw e (omega arith)
  go (inr e) =
      let n : length buckets ≡ bits / 4 * 16 = rw e at count in
      let m = w.bytes in
      rw e (omega arith)

pub lower-within : (width bits j : ℕ) (buckets : List Row) → IsWidth width bits → length buckets ≡ bits / width * 2 ^ width → j < bits / 8 * 256 → lower_place width j < length buckets
lower-within width bits j buckets w count h = go (eight-or-four width bits w) where
  go : (width ≡ 8) ⊎ (width ≡ 4) → lower_place width j < length buckets
  go (inl e) =
      let n : length buckets ≡ bits / 8 * 256 = rw e at count in
      rw e (omega arith)
  go (inr e) =
      let n : length buckets ≡ bits / 4 * 16 = rw e at count in
      let m = w.bytes in
      rw e (omega arith)

-- a table has a bucket, and a few thousand at most
pub buckets-some : (width bits : ℕ) (buckets : List Row) → IsWidth width bits → length buckets ≡ bits / width * 2 ^ width → 1 ≤ length buckets
buckets-some width bits buckets w count = go (eight-or-four width bits w) where
  go : (width ≡ 8) ⊎ (width ≡ 4) → 1 ≤ length buckets
  go (inl e) =
      let n : length buckets ≡ bits / 8 * 256 = rw e at count in
      omega (arith, w.bytes, w.some)
  go (inr e) =
      let n : length buckets ≡ bits / 4 * 16 = rw e at count in
      omega (arith, w.bytes, w.some)

pub buckets-few : (width bits : ℕ) (buckets : List Row) → IsWidth width bits → length buckets ≡ bits / width * 2 ^ width → length buckets ≤ 4096
buckets-few width bits buckets w count = go (eight-or-four width bits w) where
  go : (width ≡ 8) ⊎ (width ≡ 4) → length buckets ≤ 4096
  go (inl e) =
      let n : length buckets ≡ bits / 8 * 256 = rw e at count in
      omega (arith, w.most)
  go (inr e) =
      let n : length buckets ≡ bits / 4 * 16 = rw e at count in
      omega (arith, w.most)

-- a u32 counts that many more rules, if there is room for them
pub few-rules : (width bits rules n room : ℕ) (buckets : List Row) → IsShaped width bits rules buckets → All (λ row. n ≤ row.spare) buckets → All (λ row. room ≡ length row.bits + row.spare) buckets → room < 2 ^ 32 → rules + n < 2 ^ 32
few-rules width bits rules n room buckets shape spare rooms small =
    let some = buckets-some width bits buckets shape.groups shape.count in
    let long = All-bucket (λ (x : Row). length x.bits ≡ rules) buckets 0 shape.rows (omega arith) in
    let a = All-bucket (λ (x : Row). n ≤ x.spare) buckets 0 spare (omega arith) in
    let b = All-bucket (λ (x : Row). room ≡ length x.bits + x.spare) buckets 0 rooms (omega arith) in
    omega arith

pub rules-within : (width bits rules room : ℕ) (buckets : List Row) → IsShaped width bits rules buckets → All (λ row. room ≡ length row.bits + row.spare) buckets → rules ≤ room
rules-within width bits rules room buckets shape rooms =
    let some = buckets-some width bits buckets shape.groups shape.count in
    let long = All-bucket (λ (x : Row). length x.bits ≡ rules) buckets 0 shape.rows (omega arith) in
    let b = All-bucket (λ (x : Row). room ≡ length x.bits + x.spare) buckets 0 rooms (omega arith) in
    omega arith

-- the pages of the rules that move down, and of the summary above them
pub first-long : (width bits rules : ℕ) (buckets : List Row) → IsShaped width bits rules buckets → length (bucket_at buckets 0).bits ≡ rules
first-long width bits rules buckets shape =
    let some = buckets-some width bits buckets shape.groups shape.count in
    All-bucket (λ (x : Row). length x.bits ≡ rules) buckets 0 shape.rows (omega arith)

pub closed-room : (width bits rules first n r : ℕ) (old new : List Row) → IsShaped width bits rules old → Each (IsClosedUp first n) old new → r < rules → IsWithinRoom r new
closed-room width bits rules first n r old new shape closed h = record {
  room = let some = buckets-some width bits old shape.groups shape.count in let long = first-long width bits rules old shape in let e = (closed.at 0 (omega arith)).room in omega arith;
}

pub own-words : (pages : List (PageOf ℕ)) (first rules q : ℕ) → ((r : ℕ) → first ≤ r → r < rules → get_or (owns_of pages) (r / 4096) true ≡ true) → first < rules → first / 512 ≤ q → 512 * q < rules
    → get_or (owns_of pages) (q / 8) true ≡ true
own-words pages first rules q own some low high = go (cases_lt (512 * q) first) where
  go : (512 * q < first) ⊎ (first ≤ 512 * q) → get_or (owns_of pages) (q / 8) true ≡ true
  go (inl l) = let at : first / 4096 ≡ q / 8 = omega arith in ap (λ k. get_or (owns_of pages) k true) (sym at) ∙ own first (omega arith) some
  go (inr l) = let at : 512 * q / 4096 ≡ q / 8 = omega arith in ap (λ k. get_or (owns_of pages) k true) (sym at) ∙ own (512 * q) l high

-- a rule's place is within the room
pub rule-room : (width bits rules r : ℕ) (buckets : List Row) → IsShaped width bits rules buckets → r < rules → IsWithinRoom r buckets
rule-room width bits rules r buckets shape h = record {
  room = let some = buckets-some width bits buckets shape.groups shape.count in let long = All-bucket (λ (x : Row). length x.bits ≡ rules) buckets 0 shape.rows (omega arith) in omega arith;
}

-- ---- a page

-- The first j lines of a page have the marks of the rules up to rule 512 * (q + 1), and the others are as they were.
pub record LinesDone (width bits q j : ℕ) (buckets : List Row) (old page : List ℕ) : Type 0 where
  pub long : length page ≡ bits / 8 * 256
  pub done : (i r : ℕ) → i < j → r / 64 / 64 ≡ q / 8 → r < 512 * (q + 1) → agrees_at width buckets i r ≡ true → bit (slice_index page i) (r / 64 % 64) ≡ true
  pub rest : (i : ℕ) → j ≤ i → slice_index page i ≡ slice_index old i

pub lines-none : (width bits q n : ℕ) (buckets : List Row) (page : List ℕ) → HasMarks 64 width bits n buckets (q / 8) page → LinesDone width bits q 0 buckets page page
lines-none width bits q n buckets page has = record { long = has.long; done = λ i r h e m a. absurd (omega arith); rest = λ i h. refl }

-- a rule that two rows have is seen in the words that they share
shared-rule : (buckets : List Row) (q upper lower r : ℕ) (words : List ℕ) → IsPage buckets q words → upper < length buckets → lower < length buckets → r / 512 ≡ q → (cell buckets upper r && cell buckets lower r) ≡ true
    → share (slice_index words (upper * 8 + r % 512 / 64)) (slice_index words (lower * 8 + r % 512 / 64)) ≡ true
shared-rule buckets q upper lower r words page high low e both =
    let parts = and_parts (cell buckets upper r) (cell buckets lower r) both in
    let whole : 512 * q + 64 * (r % 512 / 64) + r % 64 ≡ r = omega arith in
    share-bit (slice_index words (upper * 8 + r % 512 / 64)) (slice_index words (lower * 8 + r % 512 / 64)) (r % 64)
    (page.bits upper (r % 512 / 64) (r % 64) high (omega arith) (omega arith) ∙ ap (cell buckets upper) whole ∙ parts.0)
    (page.bits lower (r % 512 / 64) (r % 64) low (omega arith) (omega arith) ∙ ap (cell buckets lower) whole ∙ parts.1)

pub lines-more : (width bits q j marks : ℕ) (buckets : List Row) (words old page new : List ℕ) → j < bits / 8 * 256 → IsPage buckets q words → upper_place width j < length buckets → lower_place width j < length buckets
    → ((w : ℕ) → w < 64 → bit marks w ≡ (nat_lt w 8 && share (slice_index words (upper_place width j * 8 + w)) (slice_index words (lower_place width j * 8 + w))))
    → HasMarks 64 width bits (512 * q) buckets (q / 8) old → HasNewMarks j (8 * (q % 8)) 8 marks page new → LinesDone width bits q j buckets old page → LinesDone width bits q (j + 1) buckets old new
lines-more width bits q j marks buckets words old page new h is upper lower made has marked so_far = record {
  long = marked.long ∙ so_far.long;
  done = λ i r l e m agree. go i r l e m agree (cases_eq i j);
  rest = λ i l. marked.others i (λ e. absurd (omega arith)) ∙ so_far.rest i (omega arith);
} where
  here : (r : ℕ) → r / 64 / 64 ≡ q / 8 → r < 512 * (q + 1) → agrees_at width buckets j r ≡ true → (r < 512 * q) ⊎ (512 * q ≤ r) → bit (slice_index new j) (r / 64 % 64) ≡ true
  here r e m agree (inl l) =
      marked.below (r / 64 % 64) (omega arith) ∙ ap (λ x. bit x (r / 64 % 64)) (so_far.rest j (omega arith)) ∙ has.marks j r h l e agree
  here r e m agree (inr l) =
      let there : r / 512 ≡ q = omega arith in
      let at : 8 * (q % 8) + r % 512 / 64 ≡ r / 64 % 64 = omega arith in
      ap (bit (slice_index new j)) (sym at) ∙ marked.here (r % 512 / 64) (omega arith) ∙ made (r % 512 / 64) (omega arith)
      ∙ ap (λ t. t && share (slice_index words (upper_place width j * 8 + r % 512 / 64)) (slice_index words (lower_place width j * 8 + r % 512 / 64))) (lt-ltb (r % 512 / 64) 8 (omega arith))
      ∙ shared-rule buckets q (upper_place width j) (lower_place width j) r words is upper lower there agree

  go : (i r : ℕ) → i < j + 1 → r / 64 / 64 ≡ q / 8 → r < 512 * (q + 1) → agrees_at width buckets i r ≡ true → (i ≡ j) ⊎ (i ≡ j → ⊥) → bit (slice_index new i) (r / 64 % 64) ≡ true
  go i r l e m agree (inl same) =
      let agree_j : agrees_at width buckets j r ≡ true = subst (λ x. agrees_at width buckets x r ≡ true) same agree in
      ap (λ x. bit (slice_index new x) (r / 64 % 64)) same ∙ here r e m agree_j (cases_lt r (512 * q))
  go i r l e m agree (inr differs) = ap (λ x. bit x (r / 64 % 64)) (marked.others i differs) ∙ so_far.done i r (before l differs) e m agree where
    before : i < j + 1 → (i ≡ j → ⊥) → i < j
    before a b = omega arith

pub lines-all : (width bits q j : ℕ) (buckets : List Row) (old page : List ℕ) → bits / 8 * 256 ≤ j → LinesDone width bits q j buckets old page → HasMarks 64 width bits (512 * (q + 1)) buckets (q / 8) page
lines-all width bits q j buckets old page le so_far = record { long = so_far.long; marks = λ i r h l e agree. so_far.done i r (omega arith) e l agree }

-- ---- pages

pub marks-weaker : (unit width bits n m p : ℕ) (buckets : List Row) (page : List ℕ) → ((r : ℕ) → r < m → r / unit / 64 ≡ p → r < n) → HasMarks unit width bits n buckets p page → HasMarks unit width bits m buckets p page
marks-weaker unit width bits n m p buckets page within has = record { long = has.long; marks = λ j r h l e agree. has.marks j r h (within r l e) e agree }

-- a page without marks, for no rules
pub no-marks : (unit width bits n p : ℕ) (buckets : List Row) (page : List ℕ) → page ≡ replicate (bits / 8 * 256) 0 → ((r : ℕ) → r < n → r / unit / 64 ≡ p → ⊥) → HasMarks unit width bits n buckets p page
no-marks unit width bits n p buckets page e none = record { long = ap length e ∙ length-replicate (bits / 8 * 256) 0; marks = λ j r h l same agree. absurd (none r l same) }

-- rules before or after a page are not rules of this page
pub summed-weaker : (unit width bits n m : ℕ) (buckets : List Row) (pages : List (PageOf ℕ)) → m ≤ n → IsSummed unit width bits n buckets pages → IsSummed unit width bits m buckets pages
summed-weaker unit width bits n m buckets pages le summed = record { few = summed.few; each = λ p h. marks-weaker unit width bits n m p buckets (words_at pages p) (λ r a e. omega arith) (summed.each p h) }

-- eight words more, in the page that has them
pub summed-more : (width bits q : ℕ) (buckets : List Row) (pages : List (PageOf ℕ)) (page : PageOf ℕ) → q / 8 < length pages → HasMarks 64 width bits (512 * (q + 1)) buckets (q / 8) page.items
    → IsSummed 64 width bits (512 * q) buckets pages → IsSummed 64 width bits (512 * (q + 1)) buckets (set pages (q / 8) page)
summed-more width bits q buckets pages page h has summed = record {
  few = let f = summed.few in omega (arith, length-set pages (q / 8) page);
  each = λ p l. go p (omega (arith, length-set pages (q / 8) page)) (cases_eq p (q / 8));
} where
  go : (p : ℕ) → p < length pages → (p ≡ q / 8) ⊎ (p ≡ q / 8 → ⊥) → HasMarks 64 width bits (512 * (q + 1)) buckets p (words_at (set pages (q / 8) page) p)
  go p l (inl e) =
      let same : words_at (set pages (q / 8) page) p ≡ page.items = ap (words_at (set pages (q / 8) page)) e ∙ ap (λ (m : PageOf ℕ). m.items) (get_or-set_same pages (q / 8) page _ h) in
      subst (HasMarks 64 width bits (512 * (q + 1)) buckets p) (sym same) (subst (λ x. HasMarks 64 width bits (512 * (q + 1)) buckets x page.items) (sym e) has)
  go p l (inr e) =
      subst (HasMarks 64 width bits (512 * (q + 1)) buckets p) (sym (ap (λ (m : PageOf ℕ). m.items) (get_or-set_other pages (q / 8) p page _ e)))
      (marks-weaker 64 width bits (512 * q) (512 * (q + 1)) p buckets (words_at pages p) (λ r a b. omega arith) (summed.each p l))

-- eight words that have no page
pub summed-past : (width bits q : ℕ) (buckets : List Row) (pages : List (PageOf ℕ)) → length pages ≤ q / 8 → IsSummed 64 width bits (512 * q) buckets pages → IsSummed 64 width bits (512 * (q + 1)) buckets pages
summed-past width bits q buckets pages past summed = record {
  few = summed.few;
  each = λ p h. marks-weaker 64 width bits (512 * q) (512 * (q + 1)) p buckets (words_at pages p) (λ r a b. omega arith) (summed.each p h);
}

pub pages-push : (unit width bits n : ℕ) (buckets : List Row) (pages : List (PageOf ℕ)) (page : PageOf ℕ) → length pages < 2 ^ 26 → HasMarks unit width bits n buckets (length pages) page.items → IsSummed unit width bits n buckets pages
    → IsSummed unit width bits n buckets (pages ++ page ∷ [])
pages-push unit width bits n buckets pages page small has summed = record {
  few = omega (arith, length_push pages page);
  each = λ q h. go q h (cases_lt q (length pages));
} where
  go : (q : ℕ) → q < length (pages ++ page ∷ []) → (q < length pages) ⊎ (length pages ≤ q) → HasMarks unit width bits n buckets q (words_at (pages ++ page ∷ []) q)
  go q h (inl l) = subst (HasMarks unit width bits n buckets q) (sym (ap (λ (m : PageOf ℕ). m.items) (get_or_append_left pages (page ∷ []) _ q l))) (summed.each q l)
  go q h (inr l) =
      let e : length pages ≡ q = omega (arith, length_push pages page) in
      subst (HasMarks unit width bits n buckets q) (sym (ap (λ (m : PageOf ℕ). m.items) (get_or_push pages page _ q e))) (subst (λ x. HasMarks unit width bits n buckets x page.items) e has)

-- a page that is read
pub page-marks : (unit width bits n p : ℕ) (buckets : List Row) (pages : List (PageOf ℕ)) (page : PageOf ℕ) → IsSummed unit width bits n buckets pages → p < length pages → page ≡ get_or pages p page → HasMarks unit width bits n buckets p page.items
page-marks unit width bits n p buckets pages page summed h e = subst (HasMarks unit width bits n buckets p) (sym (ap (λ (m : PageOf ℕ). m.items) (e ∙ get_or_default pages p page _ h))) (summed.each p h)

pub summed-none : (unit width bits n : ℕ) (buckets : List Row) (pages : List (PageOf ℕ)) → pages ≡ [] → IsSummed unit width bits n buckets pages
summed-none unit width bits n buckets pages e = record { few = let l = ap length e in omega arith; each = λ p h. absurd (omega (arith, ap length e)) }

-- the same pages, whoever owns them
pub summed-same : (unit width bits n : ℕ) (buckets : List Row) (pages new : List (PageOf ℕ)) → map (λ page. page.items) new ≡ map (λ page. page.items) pages → IsSummed unit width bits n buckets pages → IsSummed unit width bits n buckets new
summed-same unit width bits n buckets pages new same summed =
    let l = copied-length new pages same in
    record {
      few = let f = summed.few in omega arith;
      each = λ p h. subst (HasMarks unit width bits n buckets p) (sym (same-words pages new same p)) (summed.each p (omega arith));
    }

-- ---- a table that changes

-- the marks of rules that stay
pub summed-kept : (unit width bits n m : ℕ) (old new : List Row) (pages : List (PageOf ℕ)) → m ≤ n → KeepsCells m old new → IsSummed unit width bits n old pages → IsSummed unit width bits m new pages
summed-kept unit width bits n m old new pages le kept summed = record {
  few = summed.few;
  each = λ p h. one p (summed.each p h);
} where
  two : (a b c d : Bool) → a ≡ b → c ≡ d → (a && c) ≡ (b && d)
  two a b c d x y = cc

  one : (p : ℕ) → HasMarks unit width bits n old p (words_at pages p) → HasMarks unit width bits m new p (words_at pages p)
  one p has = record {
    long = has.long;
    marks = λ j r h l e agree.
        has.marks j r h (omega arith) e (sym (two _ _ _ _ (kept.cells (upper_place width j) r l) (kept.cells (lower_place width j) r l)) ∙ agree);
  }

cells-each : (n : ℕ) (old new : List Row) → length new ≡ length old → ((j i : ℕ) → j < length old → i < n → at (bucket_at new j).bits i ≡ at (bucket_at old j).bits i) → KeepsCells n old new
cells-each n old new long same = record { cells = λ j i h. cell-is new j i ∙ go j i h (cases_lt j (length old)) ∙ sym (cell-is old j i) } where
  go : (j i : ℕ) → i < n → (j < length old) ⊎ (length old ≤ j) → at (bucket_at new j).bits i ≡ at (bucket_at old j).bits i
  go j i h (inl l) = same j i l h
  go j i h (inr l) =
      ap (λ (x : Row). at x.bits i) (get_or_past new j (record { bits = []; spare = 0 }) (omega arith))
      ∙ sym (ap (λ (x : Row). at x.bits i) (get_or_past old j (record { bits = []; spare = 0 }) l))

pub cells-grown : (n : ℕ) (old new : List Row) → Each IsGrown old new → KeepsCells n old new
cells-grown n old new grown = cells-each n old new grown.long (λ j i l h. ap (λ xs. at xs i) (grown.at j l).bits)

pub cells-raised : (width bits rules n : ℕ) (old new : List Row) → IsShaped width bits rules old → Each (IsRaised n) old new → KeepsCells rules old new
cells-raised width bits rules n old new shape raised =
    cells-each rules old new raised.long
    (λ j i l h.
    let long = All-bucket (λ (x : Row). length x.bits ≡ rules) old j shape.rows l in
    ap (λ xs. at xs i) (raised.at j l).bits ∙ get_or_append_left (bucket_at old j).bits (replicate n false) false i (omega arith))

pub cells-closed : (width bits rules first n : ℕ) (old new : List Row) → first + n ≤ rules → IsShaped width bits rules old → Each (IsClosedUp first n) old new → KeepsCells first old new
cells-closed width bits rules first n old new fits shape closed =
    cells-each first old new closed.long
    (λ j i l h.
    let long = All-bucket (λ (x : Row). length x.bits ≡ rules) old j shape.rows l in
    let front : length (take first (bucket_at old j).bits) ≡ first = omega (arith, length-take first (bucket_at old j).bits) in
    ap (λ xs. at xs i) (closed.at j l).bits
    ∙ get_or_append_left (take first (bucket_at old j).bits) (drop (first + n) (bucket_at old j).bits) false i (omega (arith, front))
    ∙ get_or-take first (bucket_at old j).bits i false h)

-- ---- what is left out

-- the two halves of a byte decide which rules agree with the byte
pub agrees-at : (width bits rules g v r : ℕ) (buckets : List Row) (blocks : List Block) → IsWidth width bits → StandsFor width bits rules buckets blocks → g < bits / 8 → v < 2 ^ 8 → r < rules
    → agrees_at width buckets (g * 2 ^ 8 + v) r ≡ agrees 8 bits (block_at blocks r) g v
agrees-at width bits rules g v r buckets blocks w stands h k l = go (eight-or-four width bits w) where
  same : (a : Bool) → (a && a) ≡ a
  same true = refl
  same false = refl

  two : (a b c d : Bool) → a ≡ b → c ≡ d → (a && c) ≡ (b && d)
  two a b c d x y = cc

  e : (g * 2 ^ 8 + v) / 2 ^ 8 ≡ g
  e = omega arith

  f : (g * 2 ^ 8 + v) % 2 ^ 8 ≡ v
  f = omega arith

  wide : StandsFor 8 bits rules buckets blocks → agrees_at 8 buckets (g * 2 ^ 8 + v) r ≡ agrees 8 bits (block_at blocks r) g v
  wide s = same (cell buckets (g * 2 ^ 8 + v) r) ∙ s.bucket g v r h k l

  narrow : StandsFor 4 bits rules buckets blocks → agrees_at 4 buckets (g * 2 ^ 8 + v) r ≡ agrees 8 bits (block_at blocks r) g v
  narrow s =
      ap (λ x. cell buckets (2 * x * 2 ^ 4 + (g * 2 ^ 8 + v) % 2 ^ 8 / 2 ^ 4) r && cell buckets ((2 * x + 1) * 2 ^ 4 + (g * 2 ^ 8 + v) % 2 ^ 8 % 2 ^ 4) r) e
      ∙ ap (λ x. cell buckets (2 * g * 2 ^ 4 + x / 2 ^ 4) r && cell buckets ((2 * g + 1) * 2 ^ 4 + x % 2 ^ 4) r) f
      ∙ two _ _ _ _ (s.bucket (2 * g) (v / 2 ^ 4) r (omega (arith, w.bytes)) (omega arith) l) (s.bucket (2 * g + 1) (v % 2 ^ 4) r (omega (arith, w.bytes)) (omega arith) l)
      ∙ sym (agrees-halves bits g (block_at blocks r) v (omega arith) k)

  go : (width ≡ 8) ⊎ (width ≡ 4) → agrees_at width buckets (g * 2 ^ 8 + v) r ≡ agrees 8 bits (block_at blocks r) g v
  go (inl same_width) =
      ap (λ x. agrees_at x buckets (g * 2 ^ 8 + v) r) same_width ∙ wide (subst (λ x. StandsFor x bits rules buckets blocks) same_width stands)
  go (inr same_width) =
      ap (λ x. agrees_at x buckets (g * 2 ^ 8 + v) r) same_width ∙ narrow (subst (λ x. StandsFor x bits rules buckets blocks) same_width stands)

every-weaker : (p q : ℕ → Bool) (n : ℕ) → ((g : ℕ) → g < n → p g ≡ true → q g ≡ true) → every p n ≡ true → every q n ≡ true
every-weaker p q zero each h = refl
every-weaker p q (suc n) each h =
    let s = and_parts (every p n) (p n) h in
    let a = every-weaker p q n (λ g l e. each g (omega arith) e) s.0 in
    ap (λ t. t && q n) a ∙ each n (omega arith) s.1

pub eight-groups : (width bits : ℕ) → IsWidth width bits → IsWidth 8 bits
eight-groups width bits w = record { fours = refl; four = omega arith; eight = omega arith; bytes = w.bytes; some = w.some; most = w.most }

-- a rule that holds the value has a mark for each of its bytes
pub holds-marked : (unit width bits rules p value r : ℕ) (buckets : List Row) (page : List ℕ) (blocks : List Block) → IsWidth width bits → value < 2 ^ bits → StandsFor width bits rules buckets blocks
    → HasMarks unit width bits rules buckets p page → r < rules → r / unit / 64 ≡ p → holds_value (block_at blocks r) value ≡ true → is_candidate bits page value (r / unit % 64) ≡ true
holds-marked unit width bits rules p value r buckets page blocks w small stands has h e holds =
    let fits : IsWithin bits (block_at blocks r) = All-get_or (IsWithin bits) blocks r (record { base = 0; free_bits = 0 }) (let s = stands.one_each in omega arith) stands.within in
    every-weaker (λ g. agrees 8 bits (block_at blocks r) g (group 8 bits g value)) (λ g. bit (slice_index page (g * 256 + group 8 bits g value)) (r / unit % 64)) (bits / 8)
    (λ g l agree.
    let v = group-below 8 bits g value in
    has.marks (g * 2 ^ 8 + group 8 bits g value) r (omega (arith, v)) h e (agrees-at width bits rules g (group 8 bits g value) r buckets blocks w stands l v h ∙ agree))
    (groups-hold 8 bits (block_at blocks r) value (eight-groups width bits w) fits small ∙ holds)

not-true : (b : Bool) → (b ≡ true → ⊥) → b ≡ false
not-true true h = absurd (h refl)
not-true false h = refl

-- so a rule without such a mark doesn't hold the value
pub leaves-none : (unit width bits rules p value r k candidates words marked : ℕ) (buckets : List Row) (page : List ℕ) (blocks : List Block) → IsWidth width bits → value < 2 ^ bits
    → StandsFor width bits rules buckets blocks → HasMarks unit width bits rules buckets p page
    → bit candidates k ≡ (bit words k && bit marked k) → bit words k ≡ true → (is_candidate bits page value k ≡ true → bit marked k ≡ true)
    → k < 64 → bit candidates k ≡ false → r < rules → r / unit ≡ 64 * p + k → holds_value (block_at blocks r) value ≡ false
leaves-none unit width bits rules p value r k candidates words marked buckets page blocks w small stands has both there mark l unset h at_word = not-true _ no where
  no : holds_value (block_at blocks r) value ≡ true → ⊥
  no holds =
      let here : r / unit % 64 ≡ k = rw at_word (omega arith) in
      let page_of : r / unit / 64 ≡ p = rw at_word (omega arith) in
      let one : is_candidate bits page value k ≡ true = subst (λ x. is_candidate bits page value x ≡ true) here (holds-marked unit width bits rules p value r buckets page blocks w small stands has h page_of holds) in
      let a : (bit words k && bit marked k) ≡ true = ap (λ t. t && bit marked k) there ∙ mark one in
      let b : false ≡ true = sym unset ∙ both ∙ a in
      absurd (cc b)

pub words-within : (n rules k words marked : ℕ) → bit words k ≡ nat_lt n rules → bit (bit_and words marked) k ≡ true → n < rules
words-within n rules k words marked all set = ltb-true n rules (sym all ∙ (and_parts (bit words k) (bit marked k) (sym (bit-and words marked k) ∙ set)).0)

-- ---- rules that are added

pub keeps-none : (pages : List (PageOf ℕ)) → KeepsMarks pages pages
keeps-none pages = record { long = refl; sizes = λ p. refl; marks = λ p j i h. h }

pub keeps-both : (old pages new : List (PageOf ℕ)) → KeepsMarks old pages → KeepsMarks pages new → KeepsMarks old new
keeps-both old pages new first second = record {
  long = second.long ∙ first.long;
  sizes = λ p. second.sizes p ∙ first.sizes p;
  marks = λ p j i h. second.marks p j i (first.marks p j i h);
}

pub no-page : (bits m : ℕ) (block : Block) (pages : List (PageOf ℕ)) → length pages ≤ m / 64 → IsMarkSet bits block m pages
no-page bits m block pages past = record { set = λ g v h k a inside. absurd (omega arith) }

-- a page that is marked
pub keeps-page : (bits k p : ℕ) (block : Block) (pages : List (PageOf ℕ)) (page new : PageOf ℕ) → p < length pages → page ≡ get_or pages p page → IsWordMarked bits block k page.items new.items → KeepsMarks pages (set pages p new)
keeps-page bits k p block pages page new h e marked = record {
  long = length-set pages p new;
  sizes = λ q. sizes q (cases_eq q p);
  marks = λ q j i m. marks q j i m (cases_eq q p);
} where
  there : (q : ℕ) → q ≡ p → words_at (set pages p new) q ≡ new.items
  there q same = ap (words_at (set pages p new)) same ∙ ap (λ (m : PageOf ℕ). m.items) (get_or-set_same pages p new _ h)

  before : (q : ℕ) → q ≡ p → words_at pages q ≡ page.items
  before q same = ap (words_at pages) same ∙ sym (ap (λ (m : PageOf ℕ). m.items) (e ∙ get_or_default pages p page _ h))

  other : (q : ℕ) → (q ≡ p → ⊥) → words_at (set pages p new) q ≡ words_at pages q
  other q differs = ap (λ (m : PageOf ℕ). m.items) (get_or-set_other pages p q new _ differs)

  sizes : (q : ℕ) → (q ≡ p) ⊎ (q ≡ p → ⊥) → length (words_at (set pages p new) q) ≡ length (words_at pages q)
  sizes q (inl same) = ap length (there q same) ∙ marked.kept.long ∙ ap length (sym (before q same))
  sizes q (inr differs) = ap length (other q differs)

  marks : (q j i : ℕ) → bit (slice_index (words_at pages q) j) i ≡ true → (q ≡ p) ⊎ (q ≡ p → ⊥) → bit (slice_index (words_at (set pages p new) q) j) i ≡ true
  marks q j i m (inl same) = ap (λ x. bit (slice_index x j) i) (there q same) ∙ marked.kept.marks j i (ap (λ x. bit (slice_index x j) i) (sym (before q same)) ∙ m)
  marks q j i m (inr differs) = ap (λ x. bit (slice_index x j) i) (other q differs) ∙ m

pub page-marked : (bits m p : ℕ) (block : Block) (pages : List (PageOf ℕ)) (page new : PageOf ℕ) → p ≡ m / 64 → p < length pages → IsWordMarked bits block (m % 64) page.items new.items → IsMarkSet bits block m (set pages p new)
page-marked bits m p block pages page new e h marked = record {
  set = λ g v a b agree inside.
      let there : words_at (set pages p new) (m / 64) ≡ new.items = ap (words_at (set pages p new)) (sym e) ∙ ap (λ (m : PageOf ℕ). m.items) (get_or-set_same pages p new _ h) in
      ap (λ x. bit (slice_index x (g * 256 + v)) (m % 64)) there ∙ marked.set g v a b agree;
}

pub pages-page : (bits : ℕ) (old new : List (PageOf ℕ)) → KeepsMarks old new → ArePages bits old → ArePages bits new
pages-page bits old new kept are = record { each = λ p h. let l = kept.long in record { long = kept.sizes p ∙ (are.each p (omega arith)).long } }

pub page-is : (bits : ℕ) (pages : List (PageOf ℕ)) (p : ℕ) (page : PageOf ℕ) → p < length pages → page ≡ get_or pages p page → ArePages bits pages → IsMarkPage bits page.items
page-is bits pages p page h e are = subst (IsMarkPage bits) (sym (ap (λ (m : PageOf ℕ). m.items) (e ∙ get_or_default pages p page _ h))) (are.each p h)

pub rules-none : (unit bits first : ℕ) (blocks : List Block) (pages : List (PageOf ℕ)) → AreRulesMarked unit bits first 0 blocks pages
rules-none unit bits first blocks pages = record { each = λ i h. absurd (omega arith) }

pub rules-more : (unit bits first n : ℕ) (d : Block) (blocks : List Block) (pages new : List (PageOf ℕ)) → n < length blocks → KeepsMarks pages new → IsMarkSet bits (get_or blocks n d) ((first + n) / unit) new
    → AreRulesMarked unit bits first n blocks pages → AreRulesMarked unit bits first (n + 1) blocks new
rules-more unit bits first n d blocks pages new within kept marked so_far = record { each = λ i h. go i h (cases_eq i n) } where
  same : get_or blocks n d ≡ block_at blocks n
  same = get_or_default blocks n d (record { base = 0; free_bits = 0 }) within

  go : (i : ℕ) → i < n + 1 → (i ≡ n) ⊎ (i ≡ n → ⊥) → IsMarkSet bits (block_at blocks i) ((first + i) / unit) new
  go i h (inl e) = subst (λ x. IsMarkSet bits (block_at blocks x) ((first + x) / unit) new) (sym e) (subst (λ b. IsMarkSet bits b ((first + n) / unit) new) same marked)
  go i h (inr e) = record {
    set = λ g v a b agree inside. kept.marks ((first + i) / unit / 64) (g * 256 + v) ((first + i) / unit % 64) ((so_far.each i (before h e)).set g v a b agree (let l = kept.long in omega arith));
  } where
    before : i < n + 1 → (i ≡ n → ⊥) → i < n
    before a b = omega arith

pub summed-pages : (unit width bits n : ℕ) (buckets : List Row) (pages : List (PageOf ℕ)) → IsSummed unit width bits n buckets pages → ArePages bits pages
summed-pages unit width bits n buckets pages summed = record { each = λ p h. record { long = (summed.each p h).long } }

-- no rule of raised rows is set
pub fresh-raised : (width bits rules n : ℕ) (old new : List Row) → IsShaped width bits rules old → Each (IsRaised n) old new → HasNoRulesFrom rules new
fresh-raised width bits rules n old new shape raised = record { cells = λ j i h. cell-is new j i ∙ go j i h (cases_lt j (length old)) } where
  none : (i : ℕ) → (i < n) ⊎ (n ≤ i) → get_or (replicate n false) i false ≡ false
  none i (inl h) = get_or-replicate n i false false h
  none i (inr h) = get_or_past (replicate n false) i false (omega (arith, length-replicate n false))

  go : (j i : ℕ) → rules ≤ i → (j < length old) ⊎ (length old ≤ j) → at (bucket_at new j).bits i ≡ false
  go j i h (inl l) =
      let long = All-bucket (λ (x : Row). length x.bits ≡ rules) old j shape.rows l in
      ap (λ xs. at xs i) (raised.at j l).bits ∙ get_or-append_right (bucket_at old j).bits (replicate n false) rules i false long h ∙ none (i - rules) (cases_lt (i - rules) n)
  go j i h (inr l) = let m = raised.long in ap (λ (x : Row). at x.bits i) (get_or_past new j (record { bits = []; spare = 0 }) (omega arith))

-- a new rule that agrees with a line has a block that does
new-agrees : (width bits first n j r : ℕ) (blocks : List Block) (new : List Row) → IsWidth width bits → HasOnly width bits first n blocks new → j < bits / 8 * 256 → first ≤ r → agrees_at width new j r ≡ true
    → agrees 8 bits (block_at blocks (r - first)) (j / 2 ^ 8) (j % 2 ^ 8) ≡ true
new-agrees width bits first n j r blocks new w only h low agree = go (eight-or-four width bits w) where
  small : j % 2 ^ 8 < 2 ^ 8
  small = omega arith

  two : (a b : Bool) → a ≡ true → b ≡ true → (a && b) ≡ true
  two a b x y = cc

  wide : HasOnly 8 bits first n blocks new → agrees_at 8 new j r ≡ true → agrees 8 bits (block_at blocks (r - first)) (j / 2 ^ 8) (j % 2 ^ 8) ≡ true
  wide o a =
      let whole : j ≡ j / 2 ^ 8 * 2 ^ 8 + j % 2 ^ 8 = omega arith in
      let set : cell new (j / 2 ^ 8 * 2 ^ 8 + j % 2 ^ 8) r ≡ true = ap (λ x. cell new x r) (sym whole) ∙ (and_parts (cell new j r) (cell new j r) a).0 in
      o.agree (j / 2 ^ 8) (j % 2 ^ 8) r small low set

  narrow : HasOnly 4 bits first n blocks new → agrees_at 4 new j r ≡ true → agrees 8 bits (block_at blocks (r - first)) (j / 2 ^ 8) (j % 2 ^ 8) ≡ true
  narrow o a =
      let parts = and_parts (cell new (upper_place 4 j) r) (cell new (lower_place 4 j) r) a in
      agrees-halves bits (j / 2 ^ 8) (block_at blocks (r - first)) (j % 2 ^ 8) (omega (arith, w.bytes)) small
      ∙ two _ _ (o.agree (2 * (j / 2 ^ 8)) (j % 2 ^ 8 / 2 ^ 4) r (omega arith) low parts.0) (o.agree (2 * (j / 2 ^ 8) + 1) (j % 2 ^ 8 % 2 ^ 4) r (omega arith) low parts.1)

  go : (width ≡ 8) ⊎ (width ≡ 4) → agrees 8 bits (block_at blocks (r - first)) (j / 2 ^ 8) (j % 2 ^ 8) ≡ true
  go (inl e) = wide (subst (λ x. HasOnly x bits first n blocks new) e only) (subst (λ x. agrees_at x new j r ≡ true) e agree)
  go (inr e) = narrow (subst (λ x. HasOnly x bits first n blocks new) e only) (subst (λ x. agrees_at x new j r ≡ true) e agree)

-- the summary with the rules that are added
pub summed-added : (unit width bits first n : ℕ) (blocks : List Block) (old new : List Row) (pages marked : List (PageOf ℕ)) → IsWidth width bits → IsSummed unit width bits first old pages → KeepsCells first old new
    → HasOnly width bits first n blocks new → KeepsMarks pages marked → AreRulesMarked unit bits first n blocks marked → IsSummed unit width bits (first + n) new marked
summed-added unit width bits first n blocks old new pages marked w summed cells only kept rules = record {
  few = let l = kept.long in let f = summed.few in omega arith;
  each = λ p h. let l = kept.long in one p h (summed.each p (omega arith));
} where
  two : (a b c d : Bool) → a ≡ b → c ≡ d → (a && c) ≡ (b && d)
  two a b c d x y = cc

  one : (p : ℕ) → p < length marked → HasMarks unit width bits first old p (words_at pages p) → HasMarks unit width bits (first + n) new p (words_at marked p)
  one p h has = record { long = kept.sizes p ∙ has.long; marks = λ j r a b e agree. go j r a b e agree (cases_lt r first) } where
    go : (j r : ℕ) → j < bits / 8 * 256 → r < first + n → r / unit / 64 ≡ p → agrees_at width new j r ≡ true → (r < first) ⊎ (first ≤ r) → bit (slice_index (words_at marked p) j) (r / unit % 64) ≡ true
    go j r a b e agree (inl l) =
        kept.marks p j (r / unit % 64) (has.marks j r a l e (sym (two _ _ _ _ (cells.cells (upper_place width j) r l) (cells.cells (lower_place width j) r l)) ∙ agree))
    go j r a b e agree (inr l) =
        let i : first + (r - first) ≡ r = omega arith in
        let whole : j / 256 * 256 + j % 256 ≡ j = omega arith in
        let inside : (first + (r - first)) / unit / 64 < length marked = rw (i, e) h in
        let set = (rules.each (r - first) (omega arith)).set (j / 256) (j % 256) (omega arith) (omega arith) (new-agrees width bits first n j r blocks new w only a l agree) inside in
        ap (λ x. bit (slice_index (words_at marked p) x) (r / unit % 64)) (sym whole)
        ∙ ap (λ x. bit (slice_index (words_at marked x) (j / 256 * 256 + j % 256)) (r / unit % 64)) (sym e)
        ∙ ap (λ x. bit (slice_index (words_at marked (x / unit / 64)) (j / 256 * 256 + j % 256)) (x / unit % 64)) (sym i) ∙ set
