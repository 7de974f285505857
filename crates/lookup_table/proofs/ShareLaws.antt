-- Rules whose block shares a value with a block.
use Rattle.std.proofs.Common.{◌≡◌, refl, sym, ◌∙◌, ap, ℕ, zero, suc, ◌+◌, ◌-◌, ◌*◌, ◌/◌, ◌%◌, ◌^◌, ◌<◌, ◌≤◌, Bool, false, ◌&&◌, ◌||◌, List, length, replicate, arith, inl, inr, Some, slice_get, slice_index, bit_and}
use Rattle.std.proofs.lemmas.Bool.{cases_lt}
use Rattle.std.proofs.lemmas.Nat.{pow_below}
use Rattle.std.proofs.lemmas.List.{length-replicate, get_or-replicate}
use Rattle.std.proofs.lemmas.List.Elements.{All-get_or}
use Rattle.std.proofs.Math.Bool.{and-true, and_assoc}
use Rattle.set_model.specs.declared.block.Block.{Block}
use Rattle.set_model.specs.Blocks.{IsWithin}
use Rattle.bit_rows.specs.Row.{Row, at, both, either, bit}
use Rattle.bit_rows.proofs.Bits.{bit-and, bit-zero}
use Rattle.bit_rows.proofs.Rows.{at-both, at-either, length-either}
use Rattle.field_groups.specs.Groups.{IsWidth, free_in, fixed, agrees, first_agreeing, agreeing_count, every, some_from, meets, share_value}
use Rattle.field_groups.proofs.RangeTests.{some-moved, some-one, some-same, every-fails}
use Rattle.field_groups.proofs.RunLaws.{run-fits}
use Rattle.field_groups.proofs.ShareLaws.{groups-share, run-meets, meets-free}
use Rattle.lookup_table.specs.Table.{bucket_place, cell, block_at, StandsFor}
use Rattle.lookup_table.specs.Lines.{IsPage}
use Rattle.lookup_table.specs.Rows.{IsJoined}
use Rattle.lookup_table.proofs.MarkLaws.{run-within}
use Rattle.lookup_table.proofs.RowsLaws.{cell-read}

-- ---- the OR of some buckets

pub joined-none : (buckets : List Row) (start step rules : ℕ) (row : Row) → row.bits ≡ replicate rules false → IsJoined buckets start step 0 rules row
joined-none buckets start step rules row e = record {
  long = ap length e ∙ length-replicate rules false;
  at = λ r h. ap (λ xs. at xs r) e ∙ get_or-replicate rules r false false h;
}

pub joined-more : (buckets : List Row) (start step n rules : ℕ) (row next bucket : Row) → slice_get buckets (start + n * step) ≡ Some bucket → length row.bits ≡ length bucket.bits → next.bits ≡ either row.bits bucket.bits
    → IsJoined buckets start step n rules row → IsJoined buckets start step (n + 1) rules next
joined-more buckets start step n rules row next bucket found same made so_far = record {
  long = ap length made ∙ length-either row.bits bucket.bits same ∙ so_far.long;
  at = λ r h. one r (so_far.at r h) (let l = so_far.long in omega arith);
} where
  one : (r : ℕ) → at row.bits r ≡ some_from (λ i. cell buckets (start + i * step) r) 0 n → r < length row.bits → at next.bits r ≡ some_from (λ i. cell buckets (start + i * step) r) 0 (n + 1)
  one r e h =
      let more : n + 1 ≡ suc n = omega arith in
      let first : n ≡ 0 + n = omega arith in
      ap (λ xs. at xs r) made ∙ at-either row.bits bucket.bits r same h ∙ ap (λ t. t || at bucket.bits r) e
      ∙ ap (λ t. some_from (λ i. cell buckets (start + i * step) r) 0 n || t) (sym (cell-read buckets (start + n * step) r bucket found))
      ∙ ap (λ k. some_from (λ i. cell buckets (start + i * step) r) 0 n || cell buckets (start + k * step) r) first
      ∙ ap (some_from (λ i. cell buckets (start + i * step) r) 0) (sym more)

-- ---- one group

-- some bucket of the block's run is set for a rule exactly if some value of the group agrees with
-- both blocks
pub run-met : (width bits rules g r : ℕ) (block : Block) (buckets : List Row) (blocks : List Block) → StandsFor width bits rules buckets blocks → g < bits / width → r < rules
    → some_from (λ j. cell buckets j r) (bucket_place width g (first_agreeing width bits g block)) (agreeing_count width bits g block) ≡ meets width bits (block_at blocks r) block g
run-met width bits rules g r block buckets blocks stands l h =
    some-moved (λ j. cell buckets j r) (λ v. agrees width bits (block_at blocks r) g v) (g * 2 ^ width) (first_agreeing width bits g block) (agreeing_count width bits g block)
    (λ v a b. stands.bucket g v r l (omega (arith, run-fits width bits g block)) h)
    ∙ run-meets width bits g (block_at blocks r) block

-- the buckets in a row from `start` on
some-run : (p : ℕ → Bool) (start n : ℕ) → some_from (λ i. p (start + i * 1)) 0 n ≡ some_from p start n
some-run p start zero = refl
some-run p start (suc n) =
    let place : start + (0 + n) * 1 ≡ start + n = omega arith in
    two (some-run p start n) (ap p place) where
      two : {a b c d : Bool} → a ≡ b → c ≡ d → (a || c) ≡ (b || d)
      two x y = cc

-- a row after group g
pub record Met (width bits rules g : ℕ) (block : Block) (buckets : List Row) (old row : Row) : Type 0 where
  pub at : (blocks : List Block) → StandsFor width bits rules buckets blocks → (r : ℕ) → r < rules → at row.bits r ≡ (at old.bits r && meets width bits (block_at blocks r) block g)

-- a block that fixes no bit of a group leaves it free
pub mask-free : (width bits g mask : ℕ) (block : Block) → mask ≡ fixed width bits g block → mask ≡ 0 → free_in width bits g block ≡ width
mask-free width bits g mask block e none = all (free_in width bits g block) (omega arith) (sym e ∙ none) where
  all : (k : ℕ) → k ≤ width → 2 ^ width - 2 ^ k ≡ 0 → k ≡ width
  all k le f = elim (cases_lt k width) [ inl l ↦ let p : 2 ^ k < 2 ^ width = pow_below k width l in absurd (omega arith) | inr l ↦ omega arith ]

-- if the block leaves the group free, there is nothing to do
pub met-free : (width bits rules g mask : ℕ) (block : Block) (buckets : List Row) (row : Row) → mask ≡ fixed width bits g block → mask ≡ 0 → Met width bits rules g block buckets row row
met-free width bits rules g mask block buckets row e none = record {
  at = λ blocks stands r h. sym (ap (λ t. at row.bits r && t) (meets-free width bits g (block_at blocks r) block (mask-free width bits g mask block e none)) ∙ and-true (at row.bits r));
}

-- if one bucket agrees, the row is ANDed with that bucket
pub met-one : (width bits rules g first count : ℕ) (block : Block) (buckets : List Row) (old row bucket : Row) → g < bits / width
    → first ≡ bucket_place width g (first_agreeing width bits g block) → count ≡ agreeing_count width bits g block → count ≡ 1
    → slice_get buckets first ≡ Some bucket → length old.bits ≡ rules → length bucket.bits ≡ rules → row.bits ≡ both old.bits bucket.bits → Met width bits rules g block buckets old row
met-one width bits rules g first count block buckets old row bucket l e f one found long there made = record {
  at = λ blocks stands r h.
      ap (λ xs. at xs r) made ∙ at-both old.bits bucket.bits r (long ∙ sym there) (omega arith)
      ∙ ap (λ t. at old.bits r && t)
      (sym (cell-read buckets first r bucket found) ∙ sym (some-one (λ j. cell buckets j r) first) ∙ ap (λ n. some_from (λ j. cell buckets j r) first n) (sym one ∙ f)
      ∙ ap (λ j. some_from (λ i. cell buckets i r) j (agreeing_count width bits g block)) e ∙ run-met width bits rules g r block buckets blocks stands l h);
}

-- if several buckets agree, the row is ANDed with their OR
pub met-some : (width bits rules g first count : ℕ) (block : Block) (buckets : List Row) (old row rest : Row) → g < bits / width
    → first ≡ bucket_place width g (first_agreeing width bits g block) → count ≡ agreeing_count width bits g block
    → IsJoined buckets first 1 count rules rest → length old.bits ≡ rules → row.bits ≡ both old.bits rest.bits → Met width bits rules g block buckets old row
met-some width bits rules g first count block buckets old row rest l e f joined long made = record {
  at = λ blocks stands r h.
      ap (λ xs. at xs r) made ∙ at-both old.bits rest.bits r (long ∙ sym joined.long) (omega arith)
      ∙ ap (λ t. at old.bits r && t)
      (joined.at r h ∙ some-run (λ j. cell buckets j r) first count ∙ ap (λ n. some_from (λ j. cell buckets j r) first n) f
      ∙ ap (λ j. some_from (λ i. cell buckets i r) j (agreeing_count width bits g block)) e ∙ run-met width bits rules g r block buckets blocks stands l h);
}

-- ---- all groups

-- a row after the first n groups
pub record Shared (width bits rules n : ℕ) (block : Block) (buckets : List Row) (old row : Row) : Type 0 where
  pub long : length row.bits ≡ length old.bits
  pub spare : row.spare ≡ old.spare
  pub at : (blocks : List Block) → StandsFor width bits rules buckets blocks → (r : ℕ) → r < rules → at row.bits r ≡ (at old.bits r && every (meets width bits (block_at blocks r) block) n)

pub shared-none : (width bits rules : ℕ) (block : Block) (buckets : List Row) (row : Row) → Shared width bits rules 0 block buckets row row
shared-none width bits rules block buckets row = record { long = refl; spare = refl; at = λ blocks stands r h. sym (and-true (at row.bits r)) }

pub shared-more : (width bits rules n : ℕ) (block : Block) (buckets : List Row) (old row next : Row) → length old.bits ≡ rules → length next.bits ≡ rules → next.spare ≡ row.spare
    → ((blocks : List Block) → StandsFor width bits rules buckets blocks → (r : ℕ) → r < rules → at next.bits r ≡ (at row.bits r && meets width bits (block_at blocks r) block n))
    → Shared width bits rules n block buckets old row → Shared width bits rules (n + 1) block buckets old next
shared-more width bits rules n block buckets old row next here there spare met so_far = record {
  long = there ∙ sym here;
  spare = spare ∙ so_far.spare;
  at = λ blocks stands r h.
      let more : n + 1 ≡ suc n = omega arith in
      met blocks stands r h ∙ ap (λ t. t && meets width bits (block_at blocks r) block n) (so_far.at blocks stands r h)
      ∙ and_assoc (at old.bits r) (every (meets width bits (block_at blocks r) block) n) (meets width bits (block_at blocks r) block n)
      ∙ ap (λ m. at old.bits r && every (meets width bits (block_at blocks r) block) m) (sym more);
}

pub shared-all : (width bits rules n : ℕ) (block : Block) (buckets : List Row) (old row : Row) (blocks : List Block) → IsWidth width bits → n ≡ bits / width → IsWithin bits block
    → StandsFor width bits rules buckets blocks → Shared width bits rules n block buckets old row → (r : ℕ) → r < rules → at row.bits r ≡ (at old.bits r && share_value (block_at blocks r) block)
shared-all width bits rules n block buckets old row blocks w count within stands done r h =
    done.at blocks stands r h ∙ ap (λ m. at old.bits r && every (meets width bits (block_at blocks r) block) m) count
    ∙ ap (λ t. at old.bits r && t)
    (groups-share width bits (block_at blocks r) block w (All-get_or (IsWithin bits) blocks r (record { base = 0; free_bits = 0 }) (let s = stands.one_each in omega arith) stands.within) within)

-- ---- a word of rules

-- bit k of the OR of some lines of a page says whether rule 64 * i + k meets the block in the group
pub word-met : (width bits rules g i k first n : ℕ) (block : Block) (buckets : List Row) (words : List ℕ) (blocks : List Block) → StandsFor width bits rules buckets blocks → IsPage buckets (i / 8) words
    → length buckets ≡ bits / width * 2 ^ width → g < bits / width → first ≡ bucket_place width g (first_agreeing width bits g block) → n ≡ agreeing_count width bits g block → k < 64 → 64 * i + k < rules
    → some_from (λ j. bit (slice_index words (j * 8 + i % 8)) k) first n ≡ meets width bits (block_at blocks (64 * i + k)) block g
word-met width bits rules g i k first n block buckets words blocks stands page count l e f h r =
    let place_is : 512 * (i / 8) + 64 * (i % 8) + k ≡ 64 * i + k = omega arith in
    some-same (λ j. bit (slice_index words (j * 8 + i % 8)) k) (λ j. cell buckets j (64 * i + k)) first n
    (λ m q. page.bits (first + m) (i % 8) k (omega (arith, run-within width bits g block buckets count l)) (omega arith) h ∙ ap (cell buckets (first + m)) place_is)
    ∙ ap (λ m. some_from (λ j. cell buckets j (64 * i + k)) first m) f
    ∙ ap (λ m. some_from (λ j. cell buckets j (64 * i + k)) m (agreeing_count width bits g block)) e
    ∙ run-met width bits rules g (64 * i + k) block buckets blocks stands l r

-- a word after the first n groups
pub record WordShared (width bits rules n i : ℕ) (block : Block) (buckets : List Row) (word left : ℕ) : Type 0 where
  pub at : (blocks : List Block) → StandsFor width bits rules buckets blocks → (k : ℕ) → k < 64 → 64 * i + k < rules
      → bit left k ≡ (bit word k && every (meets width bits (block_at blocks (64 * i + k)) block) n)
  pub fewer : (k : ℕ) → bit word k ≡ false → bit left k ≡ false

pub word_shared-none : (width bits rules i : ℕ) (block : Block) (buckets : List Row) (word : ℕ) → WordShared width bits rules 0 i block buckets word word
word_shared-none width bits rules i block buckets word = record { at = λ blocks stands k h r. sym (and-true (bit word k)); fewer = λ k e. e }

pub word_shared-more : (width bits rules n i : ℕ) (block : Block) (buckets : List Row) (word left met : ℕ)
    → ((blocks : List Block) → StandsFor width bits rules buckets blocks → (k : ℕ) → k < 64 → 64 * i + k < rules → bit met k ≡ meets width bits (block_at blocks (64 * i + k)) block n)
    → WordShared width bits rules n i block buckets word left → WordShared width bits rules (n + 1) i block buckets word (bit_and left met)
word_shared-more width bits rules n i block buckets word left met more so_far = record {
  at = λ blocks stands k h r.
      let p = meets width bits (block_at blocks (64 * i + k)) block in
      let next : n + 1 ≡ suc n = omega arith in
      bit-and left met k ∙ two (so_far.at blocks stands k h r) (more blocks stands k h r) ∙ and_assoc (bit word k) (every p n) (p n) ∙ ap (λ m. bit word k && every p m) (sym next);
  fewer = λ k e. bit-and left met k ∙ ap (λ t. t && bit met k) (so_far.fewer k e);
} where
  two : {a b c d : Bool} → a ≡ b → c ≡ d → (a && c) ≡ (b && d)
  two x y = cc

-- what all groups leave of a word
pub word_shared-all : (width bits rules n i : ℕ) (block : Block) (buckets : List Row) (word left : ℕ) (blocks : List Block) → IsWidth width bits → n ≡ bits / width → IsWithin bits block
    → StandsFor width bits rules buckets blocks → WordShared width bits rules n i block buckets word left → (k : ℕ) → k < 64 → 64 * i + k < rules
    → bit left k ≡ (bit word k && share_value (block_at blocks (64 * i + k)) block)
word_shared-all width bits rules n i block buckets word left blocks w count within stands done k h r =
    done.at blocks stands k h r ∙ ap (λ m. bit word k && every (meets width bits (block_at blocks (64 * i + k)) block) m) count
    ∙ ap (λ t. bit word k && t) (groups-share width bits (block_at blocks (64 * i + k)) block w (All-get_or (IsWithin bits) blocks (64 * i + k) (record { base = 0; free_bits = 0 }) (let s = stands.one_each in omega arith) stands.within) within)

-- a word that is 0 stays 0
pub word_shared-early : (width bits rules n i : ℕ) (block : Block) (buckets : List Row) (word left : ℕ) (blocks : List Block) → IsWidth width bits → n ≤ bits / width → IsWithin bits block → left ≡ 0
    → StandsFor width bits rules buckets blocks → WordShared width bits rules n i block buckets word left → (k : ℕ) → k < 64 → 64 * i + k < rules
    → bit 0 k ≡ (bit word k && share_value (block_at blocks (64 * i + k)) block)
word_shared-early width bits rules n i block buckets word left blocks w le within none stands done k h r =
    let p = meets width bits (block_at blocks (64 * i + k)) block in
    let empty : (bit word k && every p n) ≡ false = sym (done.at blocks stands k h r) ∙ ap (λ x. bit x k) none ∙ bit-zero k in
    bit-zero k ∙ sym (every-fails p n (bits / width) (bit word k) le empty)
    ∙ ap (λ t. bit word k && t) (groups-share width bits (block_at blocks (64 * i + k)) block w (All-get_or (IsWithin bits) blocks (64 * i + k) (record { base = 0; free_bits = 0 }) (let s = stands.one_each in omega arith) stands.within) within)
