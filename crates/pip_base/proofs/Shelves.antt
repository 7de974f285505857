-- Files in memory: the place of a name's file, and what a read leaves.
use Rattle.std.proofs.Common.{◌≡◌, ◌≢◌, refl, sym, ◌∙◌, ap, ℕ, zero, suc, ◌+◌, ◌<◌, ◌≤◌, Bool, not, cond, List, [], ◌∷◌, ◌++◌, length, map, take, drop, slice_get, slice_set, Option, Some, None, arith, min, add-zero}
use Rattle.std.specs.List.{position, prefix_len}
use Rattle.std.proofs.lemmas.List.{length-map, take-append-drop, drop-drop, take-append-le, length-take-le, take_all}
use Rattle.std.specs.Io.KnownBytes.{Consumes, IsAtEnd}
use Rattle.std.proofs.lemmas.Option.{slice_get_within}
use Rattle.pip_base.specs.declared.mem_shelf.OpenFile.{OpenFile}
use Rattle.std.proofs.Common.{nat_eq}
use Rattle.std.specs.Cmp.Lexicographic.{pointwise}
use Rattle.std.specs.String.{string_bytes}
use Rattle.pip_base.specs.declared.mem_shelf.StoredFile.{StoredFile}
use Rattle.pip_base.specs.MemShelf.{bytes_from, bytes_at, rest_of_open, file_place, stored}

prefix_len-map : {X Y : Type 0} (f : X → Y) (p : Y → Bool) (xs : List X) → prefix_len p (map f xs) ≡ prefix_len (λ x. p (f x)) xs
prefix_len-map f p [] = refl
prefix_len-map f p (x ∷ xs) = ap (λ n. cond (p (f x)) (1 + n) 0) (prefix_len-map f p xs)

pub position-map : {X Y : Type 0} (f : X → Y) (p : Y → Bool) (xs : List X) → position p (map f xs) ≡ position (λ x. p (f x)) xs
position-map f p xs = rw (prefix_len-map f (λ y. not (p y)) xs, length-map) refl

pub slice_get-set_same : {X : Type 0} (xs : List X) (i : ℕ) (x : X) → i < length xs → slice_get (slice_set xs i x) i ≡ Some x
slice_get-set_same [] i x h = absurd (omega (arith, h))
slice_get-set_same (y ∷ xs) zero x h = refl
slice_get-set_same (y ∷ xs) (suc i) x h = slice_get-set_same xs i x (omega (arith, h))

pub slice_get-set_other : {X : Type 0} (xs : List X) (i j : ℕ) (x : X) → j ≢ i → slice_get (slice_set xs i x) j ≡ slice_get xs j
slice_get-set_other [] i j x h = refl
slice_get-set_other (y ∷ xs) zero zero x h = absurd (h refl)
slice_get-set_other (y ∷ xs) zero (suc j) x h = refl
slice_get-set_other (y ∷ xs) (suc i) zero x h = refl
slice_get-set_other (y ∷ xs) (suc i) (suc j) x h = slice_get-set_other xs i j x (λ e. h (ap suc e))

-- The bytes after those that a read gave are what is left.
pub bytes-left : (file : Option (List ℕ × List ℕ)) (from count : ℕ) → bytes_from file from ≡ take count (bytes_from file from) ++ bytes_from file (from + count)
bytes-left None from zero = refl
bytes-left None from (suc count) = refl
bytes-left (Some file) from count = sym (take-append-drop count (drop from file.1)) ∙ ap (λ rest. take count (drop from file.1) ++ rest) (drop-drop count from file.1)

-- the place of a name among the files as contracts see them
pub file_place-stored : (files : List StoredFile) (name : List ℕ) → file_place (map stored files) name ≡ position (λ file. pointwise nat_eq (string_bytes file.name) name) files
file_place-stored files name = position-map stored (λ file. pointwise nat_eq file.0 name) files

pub ruleset places = (file_place-stored)

none-left : (xs : List ℕ) → length xs ≡ 0 → xs ≡ []
none-left [] h = refl
none-left (x ∷ xs) h = absurd (omega (arith, h))

-- After a read, a file is `count` bytes further on.
module _ (files : List (List ℕ × List ℕ)) (opened : List OpenFile) (n count : ℕ) (o moved : OpenFile) (rest : List ℕ) (at_n : slice_get opened n ≡ Some o)
    (is_rest : rest ≡ bytes_from (slice_get files o.place) o.from) (place : moved.place ≡ o.place) (further : moved.from ≡ o.from + count) where
  left : rest_of_open files (slice_get (slice_set opened n moved) n) ≡ Some (bytes_from (slice_get files o.place) (o.from + count))
  left =
      ap (rest_of_open files) (slice_get-set_same opened n moved (slice_get_within opened n o at_n))
      ∙ ap (λ p. Some (bytes_from (slice_get files p) moved.from)) place
      ∙ ap (λ m. Some (bytes_from (slice_get files o.place) m)) further

  -- The next count bytes are consumed.
  pub read-consumes : (taken : List ℕ) → taken ≡ take count rest → Consumes (rest_of_open files (slice_get opened n)) (rest_of_open files (slice_get (slice_set opened n moved) n)) taken
  read-consumes taken is_taken =
      rw (at_n, left) (bytes-left (slice_get files o.place) o.from count ∙ ap (λ z. z ++ bytes_from (slice_get files o.place) (o.from + count)) (sym (is_taken ∙ ap (take count) is_rest)))

  -- None are read only at the end.
  pub read-ends : (into : List ℕ) → count ≡ min (length rest) (length into) → count ≡ 0 → 0 < length into → IsAtEnd (rest_of_open files (slice_get (slice_set opened n moved) n))
  read-ends into is_count none some = rw left (rw none (rw add-zero (sym is_rest ∙ none-left rest (omega (arith, is_count, none, some)))))

-- what was copied to the front of a buffer is read back from it
pub front-copied : (count : ℕ) (rest copied others : List ℕ) → count ≤ length rest → copied ≡ take count rest → take count (copied ++ others) ≡ take count rest
front-copied count rest copied others within is_copied =
    rw is_copied (take-append-le count (take count rest) others (simp length-take-le (omega arith)) ∙ take_all count (take count rest) (simp length-take-le (omega arith)))

pub slice_get-snoc : {X : Type 0} (xs : List X) (x : X) → slice_get (xs ++ x ∷ []) (length xs) ≡ Some x
slice_get-snoc [] x = refl
slice_get-snoc (y ∷ xs) x = slice_get-snoc xs x

pub slice_get-before : {X : Type 0} (xs ys : List X) (i : ℕ) → i < length xs → slice_get (xs ++ ys) i ≡ slice_get xs i
slice_get-before [] ys i h = absurd (omega (arith, h))
slice_get-before (x ∷ xs) ys zero h = refl
slice_get-before (x ∷ xs) ys (suc i) h = slice_get-before xs ys i (omega (arith, h))

-- A picked file has all bytes under its name left.
pub pick-left : (files : List StoredFile) (opened : List OpenFile) (name : List ℕ) (place number : ℕ)
    → Some place ≡ position (λ file. pointwise nat_eq (string_bytes file.name) name) files → number ≡ length opened
    → rest_of_open (map stored files) (slice_get (opened ++ record { place = place; from = 0 } ∷ []) number) ≡ bytes_at (map stored files) (file_place (map stored files) name)
pick-left files opened name place number at_place is_number =
    ap (λ n. rest_of_open (map stored files) (slice_get (opened ++ record { place = place; from = 0 } ∷ []) n)) is_number
    ∙ ap (rest_of_open (map stored files)) (slice_get-snoc opened (record { place = place; from = 0 }))
    ∙ ap (bytes_at (map stored files)) (at_place ∙ sym (file_place-stored files name))
