-- Rules whose block holds a value, by an AND over one bucket per group.
use Rattle.std.proofs.Common.{◌≡◌, refl, sym, ◌∙◌, ap, ℕ, suc, ◌+◌, ◌/◌, ◌^◌, ◌<◌, Bool, ◌&&◌, List, length, arith, Some, slice_get}
use Rattle.std.proofs.lemmas.List.Elements.{All-get_or}
use Rattle.std.proofs.Math.Bool.{and-true, and_assoc}
use Rattle.set_model.specs.declared.block.Block.{Block}
use Rattle.set_model.specs.Blocks.{holds_value, IsWithin}
use Rattle.bit_rows.specs.Row.{Row, at, both}
use Rattle.bit_rows.proofs.Rows.{at-both, length-both}
use Rattle.field_groups.specs.Groups.{IsWidth, group, agrees, every}
use Rattle.field_groups.proofs.RangeTests.{every-same}
use Rattle.field_groups.proofs.GroupLaws.{groups-hold, group-below}
use Rattle.lookup_table.specs.Table.{bucket_place, cell, block_at, StandsFor}
use Rattle.lookup_table.specs.Laws.{HeldByBuckets}
use Rattle.lookup_table.proofs.RowsLaws.{cell-read}

-- ---- one rule

-- the rule is set in the value's bucket of each of the first n groups
abbrev pub set_in : ℕ → ℕ → List Row → ℕ → ℕ → ℕ → Bool
set_in width bits buckets value r n = every (λ g. cell buckets (bucket_place width g (group width bits g value)) r) n

pub set-in-all : (width bits rules value r : ℕ) (buckets : List Row) (blocks : List Block) → IsWidth width bits → StandsFor width bits rules buckets blocks → value < 2 ^ bits → r < rules
    → set_in width bits buckets value r (bits / width) ≡ holds_value (block_at blocks r) value
set-in-all width bits rules value r buckets blocks w stands small h =
    every-same (λ g. cell buckets (bucket_place width g (group width bits g value)) r) (λ g. agrees width bits (block_at blocks r) g (group width bits g value)) (bits / width)
    (λ g l. stands.bucket g (group width bits g value) r l (group-below width bits g value) h)
    ∙ groups-hold width bits (block_at blocks r) value w (All-get_or (IsWithin bits) blocks r (record { base = 0; free_bits = 0 }) (let s = stands.one_each in omega arith) stands.within) small

pub held-by-buckets : HeldByBuckets
held-by-buckets t blocks value r stands small h = set-in-all t.width t.bits t.rules value r t.buckets.rows blocks t.shaped.groups stands small h

-- ---- a row of rules

-- the row after the first n groups
pub record Matched (width bits value n : ℕ) (buckets : List Row) (old row : Row) : Type 0 where
  pub long : length row.bits ≡ length old.bits
  pub spare : row.spare ≡ old.spare
  pub at : (r : ℕ) → r < length old.bits → at row.bits r ≡ (at old.bits r && set_in width bits buckets value r n)

pub matched-none : (width bits value : ℕ) (buckets : List Row) (row : Row) → Matched width bits value 0 buckets row row
matched-none width bits value buckets row = record { long = refl; spare = refl; at = λ r h. sym (and-true (at row.bits r)) }

pub matched-more : (width bits value n : ℕ) (buckets : List Row) (old row next bucket : Row) → slice_get buckets (bucket_place width n (group width bits n value)) ≡ Some bucket
    → length row.bits ≡ length bucket.bits → next.bits ≡ both row.bits bucket.bits → next.spare ≡ row.spare → Matched width bits value n buckets old row → Matched width bits value (n + 1) buckets old next
matched-more width bits value n buckets old row next bucket found same made spare so_far =
    record {
      long = ap length made ∙ length-both row.bits bucket.bits same ∙ so_far.long;
      spare = spare ∙ so_far.spare;
      at = λ r h. one r (so_far.at r h) (let l = so_far.long in omega arith);
    } where
      one : (r : ℕ) → at row.bits r ≡ (at old.bits r && set_in width bits buckets value r n) → r < length row.bits → at next.bits r ≡ (at old.bits r && set_in width bits buckets value r (n + 1))
      one r e h =
          let more : n + 1 ≡ suc n = omega arith in
          ap (λ xs. at xs r) made ∙ at-both row.bits bucket.bits r same h ∙ ap (λ t. t && at bucket.bits r) e ∙ and_assoc (at old.bits r) (set_in width bits buckets value r n) (at bucket.bits r)
          ∙ ap (λ t. at old.bits r && (set_in width bits buckets value r n && t)) (sym (cell-read buckets (bucket_place width n (group width bits n value)) r bucket found))
          ∙ ap (λ m. at old.bits r && set_in width bits buckets value r m) (sym more)

pub matched-all : (width bits rules value n : ℕ) (buckets : List Row) (old row : Row) (blocks : List Block) → IsWidth width bits → n ≡ bits / width → length old.bits ≡ rules → value < 2 ^ bits
    → StandsFor width bits rules buckets blocks → Matched width bits value n buckets old row → (r : ℕ) → r < rules → at row.bits r ≡ (at old.bits r && holds_value (block_at blocks r) value)
matched-all width bits rules value n buckets old row blocks w count long small stands done r h =
    done.at r (omega arith) ∙ ap (λ m. at old.bits r && set_in width bits buckets value r m) count
    ∙ ap (λ t. at old.bits r && t) (set-in-all width bits rules value r buckets blocks w stands small h)
