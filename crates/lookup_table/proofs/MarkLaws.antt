-- Setting a rule in the buckets that agree with its block.
use Rattle.std.proofs.Common.{◌≡◌, refl, sym, ◌∙◌, ap, subst, ℕ, suc, take, append_assoc, ◌+◌, ◌-◌, ◌*◌, ◌/◌, ◌%◌, ◌^◌, ◌<◌, ◌≤◌, ◌⊎◌, [], ◌∷◌, ◌++◌, Bool, true, false, ◌&&◌, ◌||◌, ◌==◌, nat_le, nat_lt, List, length, get_or, set, arith, inl, inr, All, bit_and}
use Rattle.std.proofs.lemmas.Bool.{cases_lt, cases_eq, lt-ltb, le-ltb, le-leb, lt-leb, eq-eqb, ne_eqb, and_parts}
use Rattle.std.proofs.lemmas.Bool.Decides.{nat_tests}
use Rattle.std.proofs.lemmas.List.{get_or-set_same, get_or-set_other, length-set, get_or_default, get_or_append_left, get_or_push, length_push}
use Rattle.std.proofs.lemmas.List.Elements.{All-push}
use Rattle.std.proofs.lemmas.Nat.{shl_whole, one_shl}
use Rattle.std.proofs.Math.Bool.{and-true, and-false, or-false}
use Rattle.std.proofs.Math.Nat.{mul-le-mul_right}
use Rattle.std.proofs.Math.Seq.{take-suc}
use Rattle.set_model.specs.declared.block.Block.{Block}
use Rattle.set_model.specs.Blocks.{IsWithin}
use Rattle.bit_rows.specs.Row.{Row, at, lies, with_run}
use Rattle.bit_rows.proofs.Rows.{at-run, length-run}
use Rattle.field_groups.specs.Groups.{group, fixed, agrees, first_agreeing, agreeing_count}
use Rattle.field_groups.proofs.RunLaws.{run-fits, agrees-run}
use Rattle.lookup_table.specs.Table.{bucket_at, bucket_place, cell, block_at}
use Rattle.lookup_table.specs.Rows.{IsSameSize, IsMarked, IsBlockMarked, HasBlockRules, KeepsCells, HasNoRulesFrom, HasOnly}
use Rattle.lookup_table.proofs.RowsLaws.{cell-is, All-bucket, bucket-All}

pub same-size : (rows : List Row) → IsSameSize rows rows
same-size rows = record { long = refl; bits = λ j. refl; spare = λ j. refl }

pub size-both : (old rows new : List Row) → IsSameSize old rows → IsSameSize rows new → IsSameSize old new
size-both old rows new first second = record {
  long = second.long ∙ first.long;
  bits = λ j. second.bits j ∙ first.bits j;
  spare = λ j. second.spare j ∙ first.spare j;
}

-- rows of the same size have the same lengths
pub size-lengths : (P : ℕ → Type 0) (old new : List Row) → IsSameSize old new → All (λ row. P (length row.bits)) old → All (λ row. P (length row.bits)) new
size-lengths P old new same all =
    bucket-All (λ (x : Row). P (length x.bits)) new
    (λ j h. subst P (sym (same.bits j)) (All-bucket (λ (x : Row). P (length x.bits)) old j all (let l = same.long in omega arith)))

-- ---- a run of rows

pub marked-none : (from r : ℕ) (old : List Row) → IsMarked from from r old old
marked-none from r old = record { size = same-size old; cells = λ j i. sym (ap (λ t. cell old j i || (t && i == r)) (none j (cases_lt j from)) ∙ or-false (cell old j i)) } where
  none : (j : ℕ) → (j < from) ⊎ (from ≤ j) → lies from from j ≡ false
  none j (inl h) = ap (λ z. z && nat_lt j from) (lt-leb from j h)
  none j (inr h) = ap (λ z. nat_le from j && z) (le-ltb j from h) ∙ and-false (nat_le from j)

one-place : (r i : ℕ) → lies r (r + 1) i ≡ (i == r)
one-place r i = go (cases_eq i r) where
  go : (i ≡ r) ⊎ (i ≡ r → ⊥) → lies r (r + 1) i ≡ (i == r)
  go (inl e) = ap (λ t. t && nat_lt i (r + 1)) (le-leb r i (omega arith)) ∙ lt-ltb i (r + 1) (omega arith) ∙ sym (eq-eqb i r e)
  go (inr e) = side (cases_lt i r) ∙ sym (ne_eqb i r e) where
    side : (i < r) ⊎ (r ≤ i) → lies r (r + 1) i ≡ false
    side (inl h) = ap (λ t. t && nat_lt i (r + 1)) (lt-leb r i h)
    side (inr h) = ap (λ t. nat_le r i && t) (le-ltb i (r + 1) (apart h e)) ∙ and-false (nat_le r i) where
      apart : r ≤ i → (i ≡ r → ⊥) → r + 1 ≤ i
      apart a b = omega arith

marked-more : (from w r : ℕ) (old rows : List Row) (row : Row) → from ≤ w → w < length rows → r + 1 ≤ length (bucket_at rows w).bits → row.bits ≡ with_run (bucket_at rows w).bits r 1 → row.spare ≡ (bucket_at rows w).spare
    → IsMarked from w r old rows → IsMarked from (w + 1) r old (set rows w row)
marked-more from w r old rows row low within place bits spare so_far = record {
  size = size-both old rows (set rows w row) so_far.size (record { long = length-set rows w row; bits = λ j. lengths j (cases_eq j w); spare = λ j. spares j (cases_eq j w) });
  cells = λ j i. here j i (cases_eq j w);
} where
  new : bucket_at (set rows w row) w ≡ row
  new = get_or-set_same rows w row (record { bits = []; spare = 0 }) within

  other : (j : ℕ) → (j ≡ w → ⊥) → bucket_at (set rows w row) j ≡ bucket_at rows j
  other j e = get_or-set_other rows w j row (record { bits = []; spare = 0 }) e

  lengths : (j : ℕ) → (j ≡ w) ⊎ (j ≡ w → ⊥) → length (bucket_at (set rows w row) j).bits ≡ length (bucket_at rows j).bits
  lengths j (inl e) =
      ap (λ k. length (bucket_at (set rows w row) k).bits) e ∙ ap (λ (x : Row). length x.bits) new ∙ ap length bits ∙ length-run (bucket_at rows w).bits r 1 place
      ∙ ap (λ k. length (bucket_at rows k).bits) (sym e)
  lengths j (inr e) = ap (λ (x : Row). length x.bits) (other j e)

  spares : (j : ℕ) → (j ≡ w) ⊎ (j ≡ w → ⊥) → (bucket_at (set rows w row) j).spare ≡ (bucket_at rows j).spare
  spares j (inl e) = ap (λ k. (bucket_at (set rows w row) k).spare) e ∙ ap (λ (x : Row). x.spare) new ∙ spare ∙ ap (λ k. (bucket_at rows k).spare) (sym e)
  spares j (inr e) = ap (λ (x : Row). x.spare) (other j e)

  more : (j : ℕ) → (j ≡ w → ⊥) → lies from w j ≡ lies from (w + 1) j
  more j e = ap (λ t. nat_le from j && t) (same (cases_lt j w)) where
    same : (j < w) ⊎ (w ≤ j) → nat_lt j w ≡ nat_lt j (w + 1)
    same (inl h) = lt-ltb j w h ∙ sym (lt-ltb j (w + 1) (omega arith))
    same (inr h) = le-ltb j w h ∙ sym (le-ltb j (w + 1) (beyond h e)) where
      beyond : w ≤ j → (j ≡ w → ⊥) → w + 1 ≤ j
      beyond a b = omega arith

  at_w : lies from (w + 1) w ≡ true
  at_w = ap (λ t. t && nat_lt w (w + 1)) (le-leb from w low) ∙ lt-ltb w (w + 1) (omega arith)

  not_yet : lies from w w ≡ false
  not_yet = ap (λ t. nat_le from w && t) (le-ltb w w (omega arith)) ∙ and-false (nat_le from w)

  was : (i : ℕ) → cell rows w i ≡ cell old w i
  was i = so_far.cells w i ∙ ap (λ t. cell old w i || (t && i == r)) not_yet ∙ or-false (cell old w i)

  here : (j i : ℕ) → (j ≡ w) ⊎ (j ≡ w → ⊥) → cell (set rows w row) j i ≡ (cell old j i || (lies from (w + 1) j && i == r))
  here j i (inl e) =
      ap (λ k. cell (set rows w row) k i) e ∙ cell-is (set rows w row) w i ∙ ap (λ (x : Row). at x.bits i) new ∙ ap (λ xs. at xs i) bits
      ∙ at-run (bucket_at rows w).bits r 1 i place ∙ ap (λ t. t || lies r (r + 1) i) (sym (cell-is rows w i) ∙ was i) ∙ ap (λ t. cell old w i || t) (one-place r i)
      ∙ ap (λ t. cell old w i || (t && i == r)) (sym at_w) ∙ ap (λ k. cell old k i || (lies from (w + 1) k && i == r)) (sym e)
  here j i (inr e) =
      cell-is (set rows w row) j i ∙ ap (λ (x : Row). at x.bits i) (other j e) ∙ sym (cell-is rows j i) ∙ so_far.cells j i
      ∙ ap (λ t. cell old j i || (t && i == r)) (more j e)

-- what a write to rows[w] does
pub marked-step : (from w r : ℕ) (old rows : List Row) (row d : Row) → from ≤ w → w < length rows → All (λ x. r < length x.bits) old → row.bits ≡ with_run (get_or rows w d).bits r 1 → row.spare ≡ (get_or rows w d).spare
    → IsMarked from w r old rows → IsMarked from (w + 1) r old (set rows w row)
marked-step from w r old rows row d low within all bits spare so_far =
    let same : get_or rows w d ≡ bucket_at rows w = get_or_default rows w d (record { bits = []; spare = 0 }) within in
    let place : r < length (bucket_at old w).bits = All-bucket (λ (x : Row). r < length x.bits) old w all (omega (arith, so_far.size.long)) in
    marked-more from w r old rows row low within (omega (arith, so_far.size.bits w)) (bits ∙ ap (λ (x : Row). with_run x.bits r 1) same) (spare ∙ ap (λ (x : Row). x.spare) same) so_far

pub marked-until : (from w to r : ℕ) (old rows : List Row) → w ≡ to → IsMarked from w r old rows → IsMarked from to r old rows
marked-until from w to r old rows e done = subst (λ n. IsMarked from n r old rows) e done

-- ---- the runs of a block, one in each group

shifted : (a b c d : ℕ) → (nat_le (a + b) (a + d) && nat_lt (a + d) (a + b + c)) ≡ (nat_le b d && nat_lt d (b + c))
shifted a b c d = two (front (cases_lt d b)) (back (cases_lt d (b + c))) where
  two : {p q r t : Bool} → p ≡ q → r ≡ t → (p && r) ≡ (q && t)
  two x y = cc

  front : (d < b) ⊎ (b ≤ d) → nat_le (a + b) (a + d) ≡ nat_le b d
  front (inl l) = lt-leb (a + b) (a + d) (omega arith) ∙ sym (lt-leb b d l)
  front (inr l) = le-leb (a + b) (a + d) (omega arith) ∙ sym (le-leb b d l)

  back : (d < b + c) ⊎ (b + c ≤ d) → nat_lt (a + d) (a + b + c) ≡ nat_lt d (b + c)
  back (inl l) = lt-ltb (a + d) (a + b + c) (omega arith) ∙ sym (lt-ltb d (b + c) l)
  back (inr l) = le-ltb (a + d) (a + b + c) (omega arith) ∙ sym (le-ltb d (b + c) l)

-- the run of group n among all buckets
run-place : (width bits n : ℕ) (block : Block) (g v : ℕ) → v < 2 ^ width
    → lies (bucket_place width n (first_agreeing width bits n block)) (bucket_place width n (first_agreeing width bits n block) + agreeing_count width bits n block) (bucket_place width g v)
    ≡ ((g == n) && agrees width bits block n v)
run-place width bits n block g v h = go (cases_lt g n) (cases_eq g n) where
  fits : first_agreeing width bits n block + agreeing_count width bits n block ≤ 2 ^ width
  fits = run-fits width bits n block

  go : (g < n) ⊎ (n ≤ g) → (g ≡ n) ⊎ (g ≡ n → ⊥)
      → lies (bucket_place width n (first_agreeing width bits n block)) (bucket_place width n (first_agreeing width bits n block) + agreeing_count width bits n block) (bucket_place width g v)
      ≡ ((g == n) && agrees width bits block n v)
  go a (inl e) =
      ap (λ x. lies (n * 2 ^ width + first_agreeing width bits n block) (n * 2 ^ width + first_agreeing width bits n block + agreeing_count width bits n block) (x * 2 ^ width + v)) e
      ∙ shifted (n * 2 ^ width) (first_agreeing width bits n block) (agreeing_count width bits n block) v ∙ sym (agrees-run width bits n block v h)
      ∙ sym (ap (λ t. t && agrees width bits block n v) (eq-eqb g n e))
  go (inl a) (inr e) =
      let far : (g + 1) * 2 ^ width ≤ n * 2 ^ width = mul-le-mul_right {m = g + 1} {n = n} (2 ^ width) (omega arith) in
      ap (λ t. t && nat_lt (g * 2 ^ width + v) (n * 2 ^ width + first_agreeing width bits n block + agreeing_count width bits n block)) (lt-leb (n * 2 ^ width + first_agreeing width bits n block) (g * 2 ^ width + v) (omega arith))
      ∙ sym (ap (λ t. t && agrees width bits block n v) (ne_eqb g n e))
  go (inr a) (inr e) =
      let past : n + 1 ≤ g = beyond a e in
      let far : (n + 1) * 2 ^ width ≤ g * 2 ^ width = mul-le-mul_right {m = n + 1} {n = g} (2 ^ width) past in
      ap (λ t. nat_le (n * 2 ^ width + first_agreeing width bits n block) (g * 2 ^ width + v) && t)
      (le-ltb (g * 2 ^ width + v) (n * 2 ^ width + first_agreeing width bits n block + agreeing_count width bits n block) (omega (arith, fits)))
      ∙ and-false (nat_le (n * 2 ^ width + first_agreeing width bits n block) (g * 2 ^ width + v))
      ∙ sym (ap (λ t. t && agrees width bits block n v) (ne_eqb g n e)) where
        beyond : n ≤ g → (g ≡ n → ⊥) → n + 1 ≤ g
        beyond a b = omega arith

pub block_marked-none : (width bits : ℕ) (block : Block) (r : ℕ) (old : List Row) → IsBlockMarked width bits 0 block r old old
block_marked-none width bits block r old = record {
  size = same-size old;
  cells = λ g v i h. sym (ap (λ t. cell old (bucket_place width g v) i || (t && agrees width bits block g v && i == r)) (le-ltb g 0 (omega arith)) ∙ or-false (cell old (bucket_place width g v) i));
}

pub block_marked-more : (width bits n : ℕ) (block : Block) (r first last : ℕ) (old rows next : List Row)
    → first ≡ bucket_place width n (first_agreeing width bits n block) → last ≡ bucket_place width n (first_agreeing width bits n block) + agreeing_count width bits n block
    → IsMarked first last r rows next → IsBlockMarked width bits n block r old rows → IsBlockMarked width bits (n + 1) block r old next
block_marked-more width bits n block r first last old rows next e f marked so_far = record {
  size = size-both old rows next so_far.size marked.size;
  cells = λ g v i h.
      marked.cells (bucket_place width g v) i
      ∙ two (so_far.cells g v i h) (ap (λ t. t && i == r) (rw (e, f) (run-place width bits n block g v h)))
      ∙ join (cell old (bucket_place width g v) i) g v (i == r) (cases_lt g n) (cases_eq g n);
} where
  two : {p q r t : Bool} → p ≡ q → r ≡ t → (p || r) ≡ (q || t)
  two x y = cc

  or_middle : (p q : Bool) → ((p || false) || q) ≡ (p || q)
  or_middle p q = ap (λ t. t || q) (or-false p)

  join_here : (l m k p a b q : Bool) → l ≡ false → m ≡ true → k ≡ true → b ≡ a → ((p || (l && a && q)) || ((m && b) && q)) ≡ (p || (k && a && q))
  join_here l m k p a b q x y z e = rw (x, y, z, e) (or_middle p (a && q))

  join_away : (l m k p a b q : Bool) → l ≡ k → m ≡ false → ((p || (l && a && q)) || ((m && b) && q)) ≡ (p || (k && a && q))
  join_away l m k p a b q x y = rw (x, y) (or-false (p || (k && a && q)))

  beyond : (g : ℕ) → n ≤ g → (g ≡ n → ⊥) → n + 1 ≤ g
  beyond g a b = omega arith

  join : (p : Bool) (g v : ℕ) (q : Bool) → (g < n) ⊎ (n ≤ g) → (g ≡ n) ⊎ (g ≡ n → ⊥)
      → ((p || (nat_lt g n && agrees width bits block g v && q)) || (((g == n) && agrees width bits block n v) && q)) ≡ (p || (nat_lt g (n + 1) && agrees width bits block g v && q))
  join p g v q a (inl e) =
      join_here (nat_lt g n) (g == n) (nat_lt g (n + 1)) p (agrees width bits block g v) (agrees width bits block n v) q (le-ltb g n (omega arith)) (eq-eqb g n e) (lt-ltb g (n + 1) (omega arith))
      (ap (λ x. agrees width bits block x v) (sym e))
  join p g v q (inl a) (inr e) =
      join_away (nat_lt g n) (g == n) (nat_lt g (n + 1)) p (agrees width bits block g v) (agrees width bits block n v) q (lt-ltb g n a ∙ sym (lt-ltb g (n + 1) (omega arith))) (ne_eqb g n e)
  join p g v q (inr a) (inr e) =
      join_away (nat_lt g n) (g == n) (nat_lt g (n + 1)) p (agrees width bits block g v) (agrees width bits block n v) q (le-ltb g n a ∙ sym (le-ltb g (n + 1) (beyond g a e))) (ne_eqb g n e)

-- ---- the code's numbers

-- a place below 2 ^ 64
place-shl : (width n : ℕ) → width ≤ 8 → n < 2 ^ 32 → n * 2 ^ width % 2 ^ 64 ≡ n * 2 ^ width
place-shl width n w small = shl_whole n 32 width 64 small (omega arith)

pub code-place : (width n v : ℕ) → width ≤ 8 → n < 2 ^ 32 → n * 2 ^ width % 2 ^ 64 + v ≡ bucket_place width n v
code-place width n v w small = ap (λ x. x + v) (place-shl width n w small)

pub code-first : (width bits n base mask : ℕ) (block : Block) → width ≤ 8 → n < 2 ^ 32 → base ≡ group width bits n block.base → mask ≡ fixed width bits n block
    → n * 2 ^ width % 2 ^ 64 + bit_and base mask ≡ bucket_place width n (first_agreeing width bits n block)
code-first width bits n base mask block w small e f = rw (place-shl width n w small, e, f) refl

pub code-count : (width bits n mask : ℕ) (block : Block) → width ≤ 8 → mask ≡ fixed width bits n block → 1 * 2 ^ width % 2 ^ 64 - mask ≡ agreeing_count width bits n block
code-count width bits n mask block w f = rw (one_shl width 64 (omega arith), f) refl

-- the run of a group lies among the buckets
pub run-within : (width bits n : ℕ) (block : Block) (rows : List Row) → length rows ≡ bits / width * 2 ^ width → n < bits / width
    → bucket_place width n (first_agreeing width bits n block) + agreeing_count width bits n block ≤ length rows
run-within width bits n block rows count h =
    omega (arith, run-fits width bits n block, mul-le-mul_right {m = n + 1} {n = bits / width} (2 ^ width) (omega arith))

-- ---- one rule more

pub rules-more : (width bits r : ℕ) (block : Block) (old new : List Row) (before : List Block) → IsWithin bits block → IsBlockMarked width bits (bits / width) block r old new → length before ≡ r
    → HasBlockRules width bits old before → HasBlockRules width bits new (before ++ block ∷ [])
rules-more width bits r block old new before within marked long has = record {
  within = All-push (IsWithin bits) before block has.within within;
  bucket = λ g v i h k l. here g v i h k (cases_lt i (length before)) (let e = length_push before block in omega arith);
  rest = λ g v i h k l.
      let e = length_push before block in
      marked.cells g v i k ∙ two (has.rest g v i h k (omega arith)) (other g v i (λ f. absurd (omega arith)));
} where
  none : Block
  none = record { base = 0; free_bits = 0 }

  two : {p q : Bool} → p ≡ false → q ≡ false → (p || q) ≡ false
  two x y = cc

  other : (g v i : ℕ) → (i ≡ r → ⊥) → (nat_lt g (bits / width) && agrees width bits block g v && i == r) ≡ false
  other g v i e =
      ap (λ t. nat_lt g (bits / width) && agrees width bits block g v && t) (ne_eqb i r e) ∙ and-false (nat_lt g (bits / width) && agrees width bits block g v)

  own : (p a b c : Bool) → p ≡ false → a ≡ true → c ≡ true → (p || (a && b && c)) ≡ b
  own p a b c x y z = rw (x, y, z) (and-true b)

  here : (g v i : ℕ) → g < bits / width → v < 2 ^ width → (i < length before) ⊎ (length before ≤ i) → i < length before + 1
      → cell new (bucket_place width g v) i ≡ agrees width bits (block_at (before ++ block ∷ []) i) g v
  here g v i h k (inl l) m =
      marked.cells g v i k ∙ ap (λ t. cell old (bucket_place width g v) i || t) (other g v i (λ f. absurd (omega arith))) ∙ or-false (cell old (bucket_place width g v) i)
      ∙ has.bucket g v i h k l ∙ ap (λ b. agrees width bits b g v) (sym (get_or_append_left before (block ∷ []) none i l))
  here g v i h k (inr l) m =
      marked.cells g v i k
      ∙ own (cell old (bucket_place width g v) i) (nat_lt g (bits / width)) (agrees width bits block g v) (i == r) (has.rest g v i h k l) (lt-ltb g (bits / width) h) (eq-eqb i r (omega arith))
      ∙ ap (λ b. agrees width bits b g v) (sym (get_or_push before block none i (omega arith)))

-- the rules of a prefix of the blocks, and then of one block more
pub rules-step : (width bits i : ℕ) (d : Block) (blocks before : List Block) (old rows new : List Row) → i < length blocks
    → (HasBlockRules width bits rows (before ++ take i blocks) → HasBlockRules width bits new ((before ++ take i blocks) ++ get_or blocks i d ∷ []))
    → HasBlockRules width bits rows (before ++ take i blocks) → HasBlockRules width bits new (before ++ take (i + 1) blocks)
rules-step width bits i d blocks before old rows new h step has =
    let e : (before ++ take i blocks) ++ get_or blocks i d ∷ [] ≡ before ++ take (i + 1) blocks =
    append_assoc before (take i blocks) (get_or blocks i d ∷ []) ∙ ap (λ xs. before ++ xs) (sym (take-suc blocks i d h) ∙ ap (λ n. take n blocks) (let f : suc i ≡ i + 1 = omega arith in f)) in
    subst (λ xs. HasBlockRules width bits new xs) e (step has)

-- ---- what stays

pub cells-both : (n : ℕ) (old rows new : List Row) → KeepsCells n old rows → KeepsCells n rows new → KeepsCells n old new
cells-both n old rows new first second = record { cells = λ j i h. second.cells j i h ∙ first.cells j i h }

pub cells-fewer : (n m : ℕ) (old new : List Row) → n ≤ m → KeepsCells m old new → KeepsCells n old new
cells-fewer n m old new le kept = record { cells = λ j i h. kept.cells j i (omega arith) }

-- a mark of place r leaves the places before it
pub cells-marked : (from to r : ℕ) (n : ℕ) (old rows new : List Row) → n ≤ r → KeepsCells n old rows → IsMarked from to r rows new → KeepsCells n old new
cells-marked from to r n old rows new le kept marked = record {
  cells = λ j i h.
      marked.cells j i ∙ ap (λ t. cell rows j i || (lies from to j && t)) (ne_eqb i r (λ e. absurd (omega arith)))
      ∙ ap (λ t. cell rows j i || t) (and-false (lies from to j)) ∙ or-false (cell rows j i) ∙ kept.cells j i h;
}

-- ---- what is set is no more than the blocks

pub only-none : (width bits first : ℕ) (blocks : List Block) (rows : List Row) → HasNoRulesFrom first rows → HasOnly width bits first 0 blocks rows
only-none width bits first blocks rows fresh = record {
  within = λ g v i h l set. go (sym (fresh.cells (bucket_place width g v) i l) ∙ set);
  agree = λ g v i h l set. gone (sym (fresh.cells (bucket_place width g v) i l) ∙ set);
} where
  go : {A : Type 0} → false ≡ true → A
  go e = absurd (cc e)

  gone : {A : Type 0} → false ≡ true → A
  gone e = absurd (cc e)

same-number : (a b : ℕ) → (a == b) ≡ true → a ≡ b
same-number a b h = grind (arith, nat_tests)

pub only-more : (width bits first n : ℕ) (block : Block) (blocks : List Block) (rows new : List Row) → block ≡ block_at blocks n → IsBlockMarked width bits (bits / width) block (first + n) rows new
    → HasOnly width bits first n blocks rows → HasOnly width bits first (n + 1) blocks new
only-more width bits first n block blocks rows new e marked so_far = record {
  within = λ g v i h l set. near g v i h l (split g v i h set);
  agree = λ g v i h l set. agree g v i h l (split g v i h set);
} where
  either : (a b : Bool) → (a || b) ≡ true → (a ≡ true) ⊎ (b ≡ true)
  either true b x = inl refl
  either false b x = inr x

  split : (g v i : ℕ) → v < 2 ^ width → cell new (bucket_place width g v) i ≡ true
      → (cell rows (bucket_place width g v) i ≡ true) ⊎ ((nat_lt g (bits / width) && agrees width bits block g v && i == first + n) ≡ true)
  split g v i h set = either (cell rows (bucket_place width g v) i) (nat_lt g (bits / width) && agrees width bits block g v && i == first + n) (sym (marked.cells g v i h) ∙ set)

  here : (g v i : ℕ) → (nat_lt g (bits / width) && agrees width bits block g v && i == first + n) ≡ true → (agrees width bits block g v ≡ true) × (i ≡ first + n)
  here g v i set =
      let outer = and_parts (nat_lt g (bits / width) && agrees width bits block g v) (i == first + n) set in
      let inner = and_parts (nat_lt g (bits / width)) (agrees width bits block g v) outer.0 in
      (inner.1, same-number i (first + n) outer.1)

  near : (g v i : ℕ) → v < 2 ^ width → first ≤ i → (cell rows (bucket_place width g v) i ≡ true) ⊎ ((nat_lt g (bits / width) && agrees width bits block g v && i == first + n) ≡ true) → i < first + (n + 1)
  near g v i h l (inl set) = let a = so_far.within g v i h l set in omega arith
  near g v i h l (inr set) = let a = (here g v i set).1 in omega arith

  agree : (g v i : ℕ) → v < 2 ^ width → first ≤ i → (cell rows (bucket_place width g v) i ≡ true) ⊎ ((nat_lt g (bits / width) && agrees width bits block g v && i == first + n) ≡ true)
      → agrees width bits (block_at blocks (i - first)) g v ≡ true
  agree g v i h l (inl set) = so_far.agree g v i h l set
  agree g v i h l (inr set) =
      let a = here g v i set in
      let k : i - first ≡ n = let b = a.1 in omega arith in
      ap (λ x. agrees width bits (block_at blocks x) g v) k ∙ ap (λ b. agrees width bits b g v) (sym e) ∙ a.0
