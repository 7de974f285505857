-- Columns, and the tables that take them.
use Rattle.std.proofs.Common.{◌≡◌, refl, sym, ◌∙◌, ap, subst, ℕ, ◌^◌, ◌<◌, ◌≤◌, Bool, true, false, nat_le, nat_lt, ◌==◌, List, [], ◌∷◌, length, get_or, slice_get, Some, None, arith, zero, suc, zero-add}
use Rattle.std.specs.Prelude.{All, find, slice_index}
use Rattle.std.specs.List.{range_with_len}
use Rattle.std.proofs.lemmas.Bool.{and_parts}
use Rattle.std.proofs.lemmas.Bool.Decides.{nat_tests}
use Rattle.std.proofs.lemmas.List.{get_or_default, get_or-map}
use Rattle.std.proofs.lemmas.List.FromFn.{length-range_with_len, get_or-range_with_len}
use Rattle.std.proofs.lemmas.Option.{get_or_from_slice_get}
use Rattle.set_model.specs.declared.block.Block.{Block}
use Rattle.set_model.specs.declared.kind.Kind.{Kind}
use Rattle.set_model.specs.declared.kind.Kind.TheVariants.{Ipv4, Ipv6, Ether, Proto, Service, Mark}
use Rattle.set_model.specs.declared.kind.Interval.{Interval}
use Rattle.set_model.specs.Blocks.{blocks, IsWithin}
use Rattle.set_model.specs.Kind.{bits_of}
use Rattle.set_model.specs.Key.{parts_fit, intervals_fit, is_good}
use Rattle.set_model.specs.SetState.{blocks_of}
use Rattle.range_expand.specs.Split.{IsFieldInterval}
use Rattle.range_expand.proofs.SplitLaws.{blocks-within}
use Rattle.lookup_table.specs.declared.table.FieldTable.{FieldTable}
use Rattle.lookup_table.specs.Rules.{IsSameField}
use Rattle.set_tables.specs.Search.{of_field}
use Rattle.set_tables.proofs.RowLaws.{find-at, find-none}
use Rattle.mapping_table.proofs.LedLaws.{position-first, position-nowhere}
use Rattle.pipapo_image.specs.Index.Grow.{IsColumn, IsKept, counts}

pub kept-same : (t : FieldTable) → IsKept t t
kept-same t = record { width = refl; bits = refl; rules = refl; stands = λ blocks s. s }

pub kept-trans : (a b c : FieldTable) → IsKept a b → IsKept b c → IsKept a c
kept-trans a b c p q = record { width = q.width ∙ p.width; bits = q.bits ∙ p.bits; rules = q.rules ∙ p.rules; stands = λ blocks s. q.stands blocks (p.stands blocks s) }

-- a table of the same field with the same rows
pub kept-by : (a b : FieldTable) → IsSameField a b → b.rules ≡ a.rules → b.buckets.rows ≡ a.buckets.rows → IsKept a b
kept-by a b same rules rows = record { width = same.width; bits = same.bits; rules = rules; stands = λ blocks s. rw (same.width, same.bits, rules, rows) s }

-- list f of a list, as the code reads it
pub list-at : {X : Type 0} (xss : List (List X)) (f : ℕ) (xs : List X) → f < length xss → xs ≡ get_or xss f xs → of_field xss f ≡ xs
list-at xss f xs h e = get_or_default xss f [] xs h ∙ sym e

pub count-at : (fields : List FieldTable) (f : ℕ) (t : FieldTable) → f < length fields → t ≡ get_or fields f t → slice_index (counts fields) f ≡ t.rules
count-at fields f t h e = get_or-map (λ z. z.rules) fields f t 0 h ∙ ap (λ z. z.rules) (sym e)

pub count-any : (fields : List FieldTable) (f : ℕ) (t : FieldTable) → f < length fields → slice_index (counts fields) f ≡ (get_or fields f t).rules
count-any fields f t h = get_or-map (λ z. z.rules) fields f t 0 h

-- the first number below n that passes
pub number-found : (p : ℕ → Bool) (n i : ℕ) → i < n → ((k : ℕ) → k < i → p k ≡ false) → p i ≡ true → Some i ≡ find p (range_with_len 0 n)
number-found p n i h before here =
    let l = length-range_with_len 0 n in
    let inside : i < length (range_with_len 0 n) = omega arith in
    let at_i = get_or-range_with_len 0 n i 0 h ∙ zero-add i in
    let first = position-first p (range_with_len 0 n) i 0 inside (λ k g. ap p (get_or-range_with_len 0 n k 0 (omega arith) ∙ zero-add k) ∙ before k g) (ap p at_i ∙ here) in
    sym (find-at p (range_with_len 0 n) i 0 (sym first) ∙ ap Some at_i)

pub number-none : (p : ℕ → Bool) (n : ℕ) → ((k : ℕ) → k < n → p k ≡ false) → None ≡ find p (range_with_len 0 n)
number-none p n before =
    let l = length-range_with_len 0 n in
    let nowhere = position-nowhere p (range_with_len 0 n) 0 (λ k g. let h : k < n = omega arith in ap p (get_or-range_with_len 0 n k 0 h ∙ zero-add k) ∙ before k h) in
    sym (find-none p (range_with_len 0 n) (sym nowhere))

-- ---- columns
bits-some : (k : Kind) → 1 ≤ bits_of k
bits-some Ipv4 = omega arith
bits-some Ipv6 = omega arith
bits-some Ether = omega arith
bits-some Proto = omega arith
bits-some Service = omega arith
bits-some Mark = omega arith

bits-most : (k : Kind) → bits_of k ≤ 128
bits-most Ipv4 = omega arith
bits-most Ipv6 = omega arith
bits-most Ether = omega arith
bits-most Proto = omega arith
bits-most Service = omega arith
bits-most Mark = omega arith

from-le : (m n : ℕ) → nat_le m n ≡ true → m ≤ n
from-le m n h = grind (arith, nat_tests)

from-lt : (m n : ℕ) → nat_lt m n ≡ true → m < n
from-lt m n h = grind (arith, nat_tests)

good-interval : (k : Kind) (p : Interval) → is_good k p ≡ true → IsFieldInterval p.low p.high (bits_of k)
good-interval k p h =
    let parts = and_parts (nat_le p.low p.high) (nat_lt p.high (2 ^ bits_of k)) h in
    record { order = from-le p.low p.high parts.0; below = from-lt p.high (2 ^ bits_of k) parts.1; some = bits-some k; most = bits-most k }

good-at : (kinds : List Kind) (parts : List Interval) (f : ℕ) (k : Kind) (p : Interval) → intervals_fit kinds parts ≡ true → slice_get kinds f ≡ Some k → slice_get parts f ≡ Some p → is_good k p ≡ true
good-at [] parts f k p h a b = absurd (cc a)
good-at (x ∷ kinds) [] f k p h a b = absurd (cc b)
good-at (x ∷ kinds) (q ∷ parts) zero k p h a b =
    let e : x ≡ k = cc a in
    let g : q ≡ p = cc b in
    ap (λ z. is_good z p) (sym e) ∙ ap (λ z. is_good x z) (sym g) ∙ (and_parts (is_good x q) (intervals_fit kinds parts) h).0
good-at (x ∷ kinds) (q ∷ parts) (suc f) k p h a b = good-at kinds parts f k p (and_parts (is_good x q) (intervals_fit kinds parts) h).1 a b

pub interval-at : (kinds : List Kind) (parts : List Interval) (f : ℕ) (k : Kind) (p : Interval) → parts_fit kinds parts ≡ true → slice_get kinds f ≡ Some k → slice_get parts f ≡ Some p
    → IsFieldInterval p.low p.high (bits_of k)
interval-at kinds parts f k p h a b = good-interval k p (good-at kinds parts f k p (and_parts (length kinds == length parts) (intervals_fit kinds parts) h).1 a b)

pub column-of : (kinds : List Kind) (parts : List Interval) (f : ℕ) (k : Kind) (p : Interval) (column : List Block) → parts_fit kinds parts ≡ true → slice_get kinds f ≡ Some k → slice_get parts f ≡ Some p
    → column ≡ blocks p.low p.high (bits_of k) → IsColumn kinds parts f column
column-of kinds parts f k p column h a b e =
    let good = interval-at kinds parts f k p h a b in
    record {
      split = e ∙ sym (ap (λ z. blocks_of z (slice_get parts f)) a ∙ ap (λ z. blocks_of (Some k) z) b);
      within = λ d.
          let same = get_or_from_slice_get kinds f k d a in
          subst (λ z. All (IsWithin (bits_of z)) column) (sym same) (subst (λ z. All (IsWithin (bits_of k)) z) (sym e) (blocks-within p.low p.high (bits_of k) good));
    }
