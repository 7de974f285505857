-- A word of rules at a time.
use Rattle.std.proofs.Common.{◌≡◌, sym, ◌∙◌, ap, ℕ, suc, ◌+◌, ◌*◌, ◌/◌, ◌^◌, ◌<◌, ◌≤◌, Bool, false, ◌&&◌, List, length, arith, Some, slice_get, bit_and}
use Rattle.std.proofs.lemmas.List.{get_or_past}
use Rattle.std.proofs.lemmas.Nat.{le-div}
use Rattle.std.proofs.Math.Bool.{and-true, and-false, and_assoc}
use Rattle.set_model.specs.declared.block.Block.{Block}
use Rattle.set_model.specs.Blocks.{holds_value}
use Rattle.bit_rows.specs.Row.{Row, at, bit}
use Rattle.bit_rows.proofs.Bits.{bit-and, bit-zero}
use Rattle.field_groups.specs.Groups.{IsWidth, group}
use Rattle.field_groups.proofs.RangeTests.{every-fails}
use Rattle.lookup_table.specs.Table.{bucket_place, cell, block_at, StandsFor}
use Rattle.lookup_table.proofs.RowsLaws.{cell-read}
use Rattle.lookup_table.proofs.MatchLaws.{set_in, set-in-all}

-- a field has a group
pub some-group : (width bits : ℕ) → IsWidth width bits → 1 ≤ bits / width
some-group width bits w = le-div 1 bits width (omega (arith, w.four)) (omega (arith, w.some, w.eight))

-- the word after the first n groups; after at least one group no bit past the last rule is set
pub record WordMatched (width bits value n i rules : ℕ) (buckets : List Row) (word left : ℕ) : Type 0 where
  pub at : (k : ℕ) → k < 64 → bit left k ≡ (bit word k && set_in width bits buckets value (64 * i + k) n)
  pub past : 0 < n → (k : ℕ) → k < 64 → rules ≤ 64 * i + k → bit left k ≡ false

pub word-none : (width bits value i rules : ℕ) (buckets : List Row) (word : ℕ) → WordMatched width bits value 0 i rules buckets word word
word-none width bits value i rules buckets word = record { at = λ k h. sym (and-true (bit word k)); past = λ some k h r. absurd (omega arith) }

pub word-more : (width bits value n i rules : ℕ) (buckets : List Row) (word left b : ℕ) (bucket : Row) → slice_get buckets (bucket_place width n (group width bits n value)) ≡ Some bucket
    → length bucket.bits ≡ rules → ((k : ℕ) → k < 64 → bit b k ≡ at bucket.bits (64 * i + k))
    → WordMatched width bits value n i rules buckets word left → WordMatched width bits value (n + 1) i rules buckets word (bit_and left b)
word-more width bits value n i rules buckets word left b bucket found long read so_far = record {
  at = λ k h. one k (so_far.at k h) (read k h);
  past = λ some k h r.
      bit-and left b k ∙ ap (λ t. bit left k && t) (read k h ∙ get_or_past bucket.bits (64 * i + k) false (omega arith)) ∙ and-false (bit left k);
} where
  one : (k : ℕ) → bit left k ≡ (bit word k && set_in width bits buckets value (64 * i + k) n) → bit b k ≡ at bucket.bits (64 * i + k)
      → bit (bit_and left b) k ≡ (bit word k && set_in width bits buckets value (64 * i + k) (n + 1))
  one k e f =
      let more : n + 1 ≡ suc n = omega arith in
      bit-and left b k ∙ two e (f ∙ sym (cell-read buckets (bucket_place width n (group width bits n value)) (64 * i + k) bucket found))
      ∙ and_assoc (bit word k) (set_in width bits buckets value (64 * i + k) n) (cell buckets (bucket_place width n (group width bits n value)) (64 * i + k))
      ∙ ap (λ m. bit word k && set_in width bits buckets value (64 * i + k) m) (sym more) where
        two : {a b c d : Bool} → a ≡ b → c ≡ d → (a && c) ≡ (b && d)
        two x y = cc

pub word-all : (width bits rules value n i : ℕ) (buckets : List Row) (word left : ℕ) (blocks : List Block) → IsWidth width bits → n ≡ bits / width → value < 2 ^ bits
    → StandsFor width bits rules buckets blocks → WordMatched width bits value n i rules buckets word left → (k : ℕ) → k < 64 → 64 * i + k < rules
    → bit left k ≡ (bit word k && holds_value (block_at blocks (64 * i + k)) value)
word-all width bits rules value n i buckets word left blocks w count small stands done k h r =
    done.at k h ∙ ap (λ m. bit word k && set_in width bits buckets value (64 * i + k) m) count
    ∙ ap (λ t. bit word k && t) (set-in-all width bits rules value (64 * i + k) buckets blocks w stands small r)

-- a word that is 0 stays 0
pub word-early : (width bits rules value n i : ℕ) (buckets : List Row) (word left : ℕ) (blocks : List Block) → IsWidth width bits → n ≤ bits / width → value < 2 ^ bits
    → StandsFor width bits rules buckets blocks → left ≡ 0 → WordMatched width bits value n i rules buckets word left → (k : ℕ) → k < 64 → 64 * i + k < rules
    → bit 0 k ≡ (bit word k && holds_value (block_at blocks (64 * i + k)) value)
word-early width bits rules value n i buckets word left blocks w le small stands none done k h r =
    let empty : (bit word k && set_in width bits buckets value (64 * i + k) n) ≡ false = sym (done.at k h) ∙ ap (λ x. bit x k) none ∙ bit-zero k in
    bit-zero k ∙ sym (every-fails (λ g. cell buckets (bucket_place width g (group width bits g value)) (64 * i + k)) n (bits / width) (bit word k) le empty)
    ∙ ap (λ t. bit word k && t) (set-in-all width bits rules value (64 * i + k) buckets blocks w stands small r)
