-- A walk by intervals finds the first element that is live and shares a key with them.
use Rattle.std.proofs.Common.{◌≡◌, refl, sym, ◌∙◌, ap, ℕ, zero, suc, ◌+◌, ◌-◌, ◌^◌, ◌<◌, ◌≤◌, Bool, true, false, ◌&&◌, ◌||◌, ◌==◌, nat_le, nat_lt, List, [], ◌∷◌, length, Option, Some, None, arith, inl, inr, get_or}
use Rattle.std.proofs.Math.Path.{fun_ext}
use Rattle.std.proofs.Math.Bool.{and_assoc}
use Rattle.std.specs.Prelude.{◌⊎◌, position, slice_get, All}
use Rattle.std.specs.List.{list_any}
use Rattle.std.proofs.lemmas.Bool.{cases_lt, and_parts}
use Rattle.std.proofs.lemmas.Bool.Decides.{nat_tests}
use Rattle.std.proofs.lemmas.Nat.{pow_pos}
use Rattle.std.proofs.lemmas.Option.{slice_get-get_or}
use Rattle.set_model.specs.declared.kind.Kind.{Kind}
use Rattle.set_model.specs.declared.kind.Kind.TheVariants.{Ipv4}
use Rattle.set_model.specs.declared.kind.Interval.{Interval}
use Rattle.set_model.specs.declared.element.Element.{Element}
use Rattle.set_model.specs.declared.block.Block.{Block}
use Rattle.set_model.specs.Kind.{bits_of}
use Rattle.set_model.specs.Expiry.{live}
use Rattle.set_model.specs.Key.{parts_fit, intervals_fit, is_good, is_value, parts_share}
use Rattle.set_model.specs.Blocks.{free_bits, blocks}
use Rattle.set_model.specs.SetState.{blocks_of, is_sharing}
use Rattle.set_model.proofs.BlockLaws.{blocks-first, blocks-none}
use Rattle.range_expand.proofs.FirstBlock.{first-within}
use Rattle.set_tables.specs.Core.{passes_fields}
use Rattle.set_tables.specs.Rows.{led_to}
use Rattle.set_tables.specs.Core.{row_of}
use Rattle.set_tables.specs.Tables.{tables, split, last_ends}
use Rattle.set_tables.specs.Search.{searched}
use Rattle.set_tables.specs.Sharing.{shares_some, share_tests}
use Rattle.set_tables.proofs.SearchLaws.{search-passed, position-same, row-led}

-- ---- one interval

-- A block has a value that is not below `from` and is below `to`.
abbrev meets_run : ℕ → ℕ → Block → Bool
meets_run from to b = nat_lt from (b.base + 2 ^ b.free_bits) && nat_lt b.base to

no-run : (low high from to : ℕ) → high < low → false ≡ (nat_le low high && (nat_lt low to && nat_lt from (high + 1)))
no-run low high from to h = grind (arith, nat_tests)

two-runs : (low next high from to : ℕ) → low < next → next ≤ high + 1 → from < to
    → ((nat_lt from next && nat_lt low to) || (nat_le next high && (nat_lt next to && nat_lt from (high + 1)))) ≡ (nat_le low high && (nat_lt low to && nat_lt from (high + 1)))
two-runs low next high from to a b c = grind (arith, nat_tests)

meets : (n low high bits from to : ℕ) → high + 1 ≤ low + n → from < to
    → list_any (meets_run from to) (blocks low high bits) ≡ (nat_le low high && (nat_lt low to && nat_lt from (high + 1)))
meets zero low high bits from to h some = rw (blocks-none low high bits (omega arith)) (no-run low high from to (omega arith))
meets (suc n) low high bits from to h some = go (cases_lt high low) (λ next g. meets n next high bits from to g some) where
  go : (high < low) ⊎ (low ≤ high)
      → ((next : ℕ) → high + 1 ≤ next + n → list_any (meets_run from to) (blocks next high bits) ≡ (nat_le next high && (nat_lt next to && nat_lt from (high + 1))))
      → list_any (meets_run from to) (blocks low high bits) ≡ (nat_le low high && (nat_lt low to && nat_lt from (high + 1)))
  go (inl a) ih = rw (blocks-none low high bits a) (no-run low high from to a)
  go (inr a) ih =
      let p : 0 < 2 ^ free_bits low high bits = pow_pos (free_bits low high bits) in
      let w = first-within low high bits a in
      ap (list_any (meets_run from to)) (blocks-first low high bits a)
      ∙ ap (λ z. meets_run from to (record { base = low; free_bits = free_bits low high bits }) || z) (ih (low + 2 ^ free_bits low high bits) (omega arith))
      ∙ two-runs low (low + 2 ^ free_bits low high bits) high from to (omega arith) w some

full : (low high from to : ℕ) → low ≤ high → (nat_le low high && (nat_lt low to && nat_lt from (high + 1))) ≡ (nat_lt low to && nat_lt from (high + 1))
full low high from to h = grind (arith, nat_tests)

-- Some block of an interval's split has a value in a run exactly if the interval has one.
blocks-meet : (low high bits from to : ℕ) → low ≤ high → from < to → list_any (meets_run from to) (blocks low high bits) ≡ (nat_lt low to && nat_lt from (high + 1))
blocks-meet low high bits from to h some = meets (high + 1) low high bits from to (omega arith) some ∙ full low high from to h

-- A block shares a value with some block of an interval's split exactly if it shares one with the
-- interval.
block-shares : (low high bits : ℕ) (b : Block) → low ≤ high → shares_some (blocks low high bits) b ≡ meets_run low (high + 1) b
block-shares low high bits b h =
    let p : 0 < 2 ^ b.free_bits = pow_pos b.free_bits in
    blocks-meet low high bits b.base (b.base + 2 ^ b.free_bits) h (omega arith)

up-to : (a b c d : ℕ) → (nat_lt a (b + 1) && nat_lt c (d + 1)) ≡ (nat_le a b && nat_le c d)
up-to a b c d = grind (arith, nat_tests)

-- Some blocks of two intervals' splits share a value exactly if the intervals do.
pub splits-share : (p q : Interval) (bits : ℕ) → p.low ≤ p.high → q.low ≤ q.high
    → list_any (shares_some (blocks q.low q.high bits)) (blocks p.low p.high bits) ≡ (nat_le p.low q.high && nat_le q.low p.high)
splits-share p q bits h g =
    let one : shares_some (blocks q.low q.high bits) ≡ meets_run q.low (q.high + 1) = fun_ext (λ b. block-shares q.low q.high bits b g) in
    ap (λ t. list_any t (blocks p.low p.high bits)) one
    ∙ blocks-meet p.low p.high bits q.low (q.high + 1) h (omega arith)
    ∙ up-to p.low q.high q.low p.high

-- ---- one field

-- Two intervals, if both exist, share a value.
abbrev parts_meet : Option Interval → Option Interval → Bool
parts_meet None q = false
parts_meet (Some p) None = false
parts_meet (Some p) (Some q) = nat_le p.low q.high && nat_le q.low p.high

-- An element shares a value with the intervals in field f.
abbrev meets_at : Element → List Interval → ℕ → Bool
meets_at e parts f = parts_meet (slice_get e.parts f) (slice_get parts f)

-- An element shares a value with the intervals in each field before f.
abbrev met : List Interval → ℕ → Element → Bool
met parts zero e = true
met parts (suc f) e = met parts f e && meets_at e parts f

from-le : (m n : ℕ) → nat_le m n ≡ true → m ≤ n
from-le m n h = grind (arith, nat_tests)

from-equal : (m n : ℕ) → (m == n) ≡ true → n ≡ m
from-equal m n h = grind (arith, nat_tests)

-- an interval of a list that fits has a low end no higher than its high end
in-order : (kinds : List Kind) (parts : List Interval) (f : ℕ) (d : Interval) → intervals_fit kinds parts ≡ true → f < length kinds → f < length parts
    → (get_or parts f d).low ≤ (get_or parts f d).high
in-order [] parts f d h a b = absurd (omega arith)
in-order (k ∷ kinds) [] f d h a b = absurd (omega arith)
in-order (k ∷ kinds) (p ∷ parts) zero d h a b =
    from-le p.low p.high (and_parts (nat_le p.low p.high) (is_value k p.high) (and_parts (is_good k p) (intervals_fit kinds parts) h).0).0
in-order (k ∷ kinds) (p ∷ parts) (suc f) d h a b = in-order kinds parts f d (and_parts (is_good k p) (intervals_fit kinds parts) h).1 (omega arith) (omega arith)

long : (kinds : List Kind) (parts : List Interval) → parts_fit kinds parts ≡ true → length parts ≡ length kinds
long kinds parts h = from-equal (length kinds) (length parts) (and_parts (length kinds == length parts) (intervals_fit kinds parts) h).0

field-shares : (kinds : List Kind) (parts : List Interval) (f : ℕ) (e : Element) → parts_fit kinds parts ≡ true → parts_fit kinds e.parts ≡ true → f < length kinds
    → list_any (share_tests kinds parts f) (split kinds f e) ≡ meets_at e parts f
field-shares kinds parts f e fit mine h =
    let d : Interval = record { low = 0; high = 0 } in
    let n = long kinds parts fit in
    let m = long kinds e.parts mine in
    let a : f < length parts = omega arith in
    let b : f < length e.parts = omega arith in
    let k = slice_get-get_or kinds f Ipv4 h in
    let q = slice_get-get_or parts f d a in
    let p = slice_get-get_or e.parts f d b in
    ap (λ z. list_any (shares_some (blocks_of z (slice_get parts f))) (blocks_of z (slice_get e.parts f))) k
    ∙ ap (λ z. list_any (shares_some (blocks_of (Some (get_or kinds f Ipv4)) z)) (blocks_of (Some (get_or kinds f Ipv4)) (slice_get e.parts f))) q
    ∙ ap (λ z. list_any (shares_some (blocks_of (Some (get_or kinds f Ipv4)) (Some (get_or parts f d)))) (blocks_of (Some (get_or kinds f Ipv4)) z)) p
    ∙ splits-share (get_or e.parts f d) (get_or parts f d) (bits_of (get_or kinds f Ipv4))
    (in-order kinds e.parts f d (and_parts (length kinds == length e.parts) (intervals_fit kinds e.parts) mine).1 h b)
    (in-order kinds parts f d (and_parts (length kinds == length parts) (intervals_fit kinds parts) fit).1 h a)
    ∙ ap (λ z. parts_meet z (Some (get_or parts f d))) (sym p)
    ∙ ap (λ z. parts_meet (slice_get e.parts f) z) (sym q)

-- ---- all fields
passed-met : (kinds : List Kind) (parts : List Interval) (f : ℕ) (e : Element) → parts_fit kinds parts ≡ true → parts_fit kinds e.parts ≡ true → f ≤ length kinds
    → passes_fields kinds (share_tests kinds parts) f e ≡ met parts f e
passed-met kinds parts zero e fit mine h = refl
passed-met kinds parts (suc f) e fit mine h =
    ap (λ z. z && list_any (share_tests kinds parts f) (split kinds f e)) (passed-met kinds parts f e fit mine (omega arith))
    ∙ ap (λ z. met parts f e && z) (field-shares kinds parts f e fit mine (omega arith))

met-first : (p q : Interval) (mine parts : List Interval) (i : ℕ) (x : Option ℕ) (c : List ℕ) (f : ℕ)
    → met (q ∷ parts) (suc f) (record { id = i; parts = p ∷ mine; expiry = x; comment = c })
    ≡ ((nat_le p.low q.high && nat_le q.low p.high) && met parts f (record { id = i; parts = mine; expiry = x; comment = c }))
met-first p q mine parts i x c zero = and-true (nat_le p.low q.high && nat_le q.low p.high) where
  and-true : (t : Bool) → t ≡ (t && true)
  and-true true = refl
  and-true false = refl
met-first p q mine parts i x c (suc f) =
    let e : Element = record { id = i; parts = mine; expiry = x; comment = c } in
    ap (λ z. z && meets_at e parts f) (met-first p q mine parts i x c f) ∙ and_assoc (nat_le p.low q.high && nat_le q.low p.high) (met parts f e) (meets_at e parts f)

met-all : (mine parts : List Interval) (i : ℕ) (x : Option ℕ) (c : List ℕ) → length mine ≡ length parts
    → met parts (length parts) (record { id = i; parts = mine; expiry = x; comment = c }) ≡ parts_share mine parts
met-all [] [] i x c h = refl
met-all [] (q ∷ parts) i x c h = absurd (cc h)
met-all (p ∷ mine) [] i x c h = absurd (cc h)
met-all (p ∷ mine) (q ∷ parts) i x c h =
    let e : length mine ≡ length parts = omega arith in
    met-first p q mine parts i x c (length parts) ∙ ap (λ z. (nat_le p.low q.high && nat_le q.low p.high) && z) (met-all mine parts i x c e)

passed-shares : (kinds : List Kind) (parts : List Interval) (now : ℕ) (e : Element) → 1 ≤ length kinds → parts_fit kinds parts ≡ true → parts_fit kinds e.parts ≡ true
    → (live e now && passes_fields kinds (share_tests kinds parts) (suc (length kinds - 1)) e) ≡ is_sharing parts now e
passed-shares kinds parts now e some fit mine =
    let n = long kinds parts fit in
    let m = long kinds e.parts mine in
    let all : suc (length kinds - 1) ≡ length parts = omega arith in
    ap (λ z. live e now && passes_fields kinds (share_tests kinds parts) z e) all
    ∙ ap (λ z. live e now && z) (passed-met kinds parts (length parts) e fit mine (omega arith) ∙ met-all e.parts parts e.id e.expiry e.comment (m ∙ sym n))

pub search-shares : (kinds : List Kind) (es : List Element) (parts : List Interval) (now : ℕ) → 1 ≤ length kinds → parts_fit kinds parts ≡ true → All (λ e. parts_fit kinds e.parts ≡ true) es
    → searched (share_tests kinds parts) (tables kinds es) now ≡ position (is_sharing parts now) es
search-shares kinds es parts now some fit all =
    search-passed kinds es (share_tests kinds parts) now some ∙ position-same _ _ es (λ i d l. passed-shares kinds parts now (get_or es i d) some fit (all i d l))

-- from the row after the last field
pub led-shares : (kinds : List Kind) (es : List Element) (parts : List Interval) (now : ℕ) → 1 ≤ length kinds → parts_fit kinds parts ≡ true → All (λ e. parts_fit kinds e.parts ≡ true) es
    → led_to (last_ends kinds es) (row_of kinds es (share_tests kinds parts) (length kinds - 1)) now ≡ position (is_sharing parts now) es
led-shares kinds es parts now some fit all =
    row-led kinds es (share_tests kinds parts) now ∙ position-same _ _ es (λ i d l. passed-shares kinds parts now (get_or es i d) some fit (all i d l))
