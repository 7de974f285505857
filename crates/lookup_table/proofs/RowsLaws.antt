-- Changes of rows, one by one.
use Rattle.std.proofs.Common.{◌≡◌, refl, sym, ◌∙◌, ap, subst, ℕ, zero, suc, ◌+◌, ◌<◌, ◌≤◌, [], ◌∷◌, ◌++◌, Bool, false, List, length, replicate, arith, All, Some, slice_get}
use Rattle.std.proofs.lemmas.List.{length-map, get_or-map, ext_get_or, length-append, length-replicate}
use Rattle.std.proofs.lemmas.List.Elements.{All-get_or, All-from_get_or}
use Rattle.std.proofs.lemmas.Option.{slice_get-get_or}
use Rattle.bit_rows.specs.Row.{Row, at}
use Rattle.lookup_table.specs.Table.{bucket_at, cell, rooms_of, bucket_bits}
use Rattle.lookup_table.specs.Rows.{Each, IsRaised, IsClosedUp, IsGrown, IsSameSize}

pub cell-is : (rows : List Row) (j r : ℕ) → cell rows j r ≡ at (bucket_at rows j).bits r
unfolding cell
cell-is rows j r = refl

pub bucket-read : (rows : List Row) (j : ℕ) (row : Row) → slice_get rows j ≡ Some row → bucket_at rows j ≡ row
bucket-read [] j row e = absurd (cc e)
bucket-read (x ∷ rows) zero row e = cc
bucket-read (x ∷ rows) (suc j) row e = bucket-read rows j row e

pub cell-read : (rows : List Row) (j r : ℕ) (row : Row) → slice_get rows j ≡ Some row → cell rows j r ≡ at row.bits r
cell-read rows j r row e = cell-is rows j r ∙ ap (λ (x : Row). at x.bits r) (bucket-read rows j row e)

pub read-within : (rows : List Row) (j : ℕ) (row : Row) → slice_get rows j ≡ Some row → j < length rows
read-within [] j row e = absurd (cc e)
read-within (x ∷ rows) zero row e = omega arith
read-within (x ∷ rows) (suc j) row e = let h = read-within rows j row e in omega arith

pub bucket-found : (rows : List Row) (j : ℕ) → j < length rows → slice_get rows j ≡ Some (bucket_at rows j)
bucket-found rows j h = slice_get-get_or rows j (record { bits = []; spare = 0 }) h

-- what holds of each row holds of one that is read, or looked up
pub All-read : (P : Row → Type 0) (rows : List Row) (j : ℕ) (row : Row) → All P rows → slice_get rows j ≡ Some row → P row
All-read P rows j row all e = subst P (bucket-read rows j row e) (All-get_or P rows j (record { bits = []; spare = 0 }) (read-within rows j row e) all)

pub All-bucket : (P : Row → Type 0) (rows : List Row) (j : ℕ) → All P rows → j < length rows → P (bucket_at rows j)
All-bucket P rows j all h = All-get_or P rows j (record { bits = []; spare = 0 }) h all

pub bucket-All : (P : Row → Type 0) (rows : List Row) → ((j : ℕ) → j < length rows → P (bucket_at rows j)) → All P rows
bucket-All P rows each = All-from_get_or P rows (record { bits = []; spare = 0 }) each

-- ---- a loop over the rows

-- the rows below i are changed, and the others are as they were
pub record Changed (R : Row → Row → Type 0) (old : List Row) (i : ℕ) (rows : List Row) : Type 0 where
  pub long : length rows ≡ length old
  pub done : (j : ℕ) → j < i → R (bucket_at old j) (bucket_at rows j)
  pub rest : (j : ℕ) → i ≤ j → bucket_at rows j ≡ bucket_at old j

-- ---- what each change keeps

pub length-raised : (xs : List Bool) (n : ℕ) → length (xs ++ replicate n false) ≡ length xs + n
length-raised xs n = omega (arith, length-append xs (replicate n false), length-replicate n false)

pub raised-size : (n : ℕ) (old new : Row) → IsRaised n old new → length new.bits + new.spare ≡ length old.bits + old.spare
raised-size n old new raised = let e = ap length raised.bits ∙ length-raised old.bits n in let s = raised.spare in omega arith

-- Rooms of rows that change one by one, each in its room.
pub rooms-same : (old new : List Row) → length new ≡ length old → ((j : ℕ) → j < length old → length (bucket_at new j).bits + (bucket_at new j).spare ≡ length (bucket_at old j).bits + (bucket_at old j).spare)
    → rooms_of new ≡ rooms_of old
rooms-same old new long each =
    ext_get_or 0 (rooms_of new) (rooms_of old) (length-map new (λ (x : Row). length x.bits + x.spare) ∙ long ∙ sym (length-map old (λ (x : Row). length x.bits + x.spare)))
    (λ j h. let within : j < length new = omega (arith, length-map new (λ (x : Row). length x.bits + x.spare)) in
    let before : j < length old = omega arith in
    get_or-map (λ (x : Row). length x.bits + x.spare) new j (record { bits = []; spare = 0 }) 0 within
    ∙ each j before
    ∙ sym (get_or-map (λ (x : Row). length x.bits + x.spare) old j (record { bits = []; spare = 0 }) 0 before))

pub raised-rooms : (n : ℕ) (old new : List Row) → Each (IsRaised n) old new → rooms_of new ≡ rooms_of old
raised-rooms n old new each = rooms-same old new each.long (λ j h. raised-size n (bucket_at old j) (bucket_at new j) (each.at j h))

pub closed-rooms : (first n : ℕ) (old new : List Row) → Each (IsClosedUp first n) old new → rooms_of new ≡ rooms_of old
closed-rooms first n old new each = rooms-same old new each.long (λ j h. (each.at j h).room)

pub size-rooms : (old new : List Row) → IsSameSize old new → rooms_of new ≡ rooms_of old
size-rooms old new same = rooms-same old new same.long (λ j h. let b = same.bits j in let s = same.spare j in omega arith)

pub grown-bits : (old new : List Row) → Each IsGrown old new → bucket_bits new ≡ bucket_bits old
grown-bits old new each =
    ext_get_or [] (bucket_bits new) (bucket_bits old) (length-map new (λ (x : Row). x.bits) ∙ each.long ∙ sym (length-map old (λ (x : Row). x.bits)))
    (λ j h. let within : j < length new = omega (arith, length-map new (λ (x : Row). x.bits)) in
    let l = each.long in
    let before : j < length old = omega arith in
    get_or-map (λ (x : Row). x.bits) new j (record { bits = []; spare = 0 }) [] within ∙ (each.at j before).bits
    ∙ sym (get_or-map (λ (x : Row). x.bits) old j (record { bits = []; spare = 0 }) [] before))
