-- A region that is cut in two at a value of one field.
use Rattle.std.proofs.Common.{◌≡◌, refl, sym, ◌∙◌, ap, ℕ, zero, suc, ◌+◌, ◌-◌, ◌*◌, ◌^◌, ◌<◌, ◌≤◌, true, ◌&&◌, ◌||◌, ◌==◌, nat_le, nat_lt, List, [], ◌∷◌, length, arith, length-set}
use Rattle.std.proofs.Math.Bool.{and-or_distrib_left, and-or_distrib_right}
use Rattle.std.proofs.Math.Nat.{add-mul, mul-add}
use Rattle.std.proofs.lemmas.Bool.{and_parts, and_from}
use Rattle.std.proofs.lemmas.Bool.Decides.{nat_tests}
use Rattle.std.proofs.lemmas.Nat.{mul-le}
use Rattle.set_model.specs.declared.kind.Kind.{Kind}
use Rattle.set_model.specs.declared.kind.Interval.{Interval}
use Rattle.set_model.specs.Kind.{bits_of}
use Rattle.set_model.specs.Key.{is_good, is_value, contains, parts_hold, start_key, parts_fit, intervals_fit}
use Rattle.set_compare.specs.Search.{volume, side_of, part_up_to, part_above}

value-split : (low m high v : ℕ) → low ≤ m → m < high → (nat_le low v && nat_le v high) ≡ ((nat_le low v && nat_le v m) || (nat_le (m + 1) v && nat_le v high))
value-split low m high v a b = grind (arith, nat_tests)

-- A key of the region is in exactly one of the parts.
pub hold-split : (region : List Interval) (f high : ℕ) (key : List ℕ) → f < length region → (side_of region f).low ≤ high → high < (side_of region f).high
    → parts_hold region key ≡ (parts_hold (part_up_to region f high) key || parts_hold (part_above region f high) key)
hold-split [] f high key l a b = absurd (omega arith)
hold-split (p ∷ ps) zero high [] l a b = refl
hold-split (p ∷ ps) zero high (v ∷ vs) l a b =
    let low : Interval = record { low = p.low; high = high } in
    let up : Interval = record { low = high + 1; high = p.high } in
    ap (λ z. z && parts_hold ps vs) (value-split p.low high p.high v a b) ∙ and-or_distrib_right (contains low v) (contains up v) (parts_hold ps vs)
hold-split (p ∷ ps) (suc f) high [] l a b = refl
hold-split (p ∷ ps) (suc f) high (v ∷ vs) l a b =
    ap (λ z. contains p v && z) (hold-split ps f high vs (omega arith) a b)
    ∙ and-or_distrib_left (contains p v) (parts_hold (part_up_to ps f high) vs) (parts_hold (part_above ps f high) vs)

pub volume-split : (region : List Interval) (f high : ℕ) → f < length region → (side_of region f).low ≤ high → high < (side_of region f).high
    → volume (part_up_to region f high) + volume (part_above region f high) ≡ volume region
volume-split [] f high l a b = absurd (omega arith)
volume-split (p ∷ ps) zero high l a b =
    let widths : (high + 1 - p.low) + (p.high + 1 - (high + 1)) ≡ p.high + 1 - p.low = omega arith in
    sym (add-mul (high + 1 - p.low) (p.high + 1 - (high + 1)) (volume ps)) ∙ ap (λ z. z * volume ps) widths
volume-split (p ∷ ps) (suc f) high l a b =
    sym (mul-add (p.high + 1 - p.low) (volume (part_up_to ps f high)) (volume (part_above ps f high))) ∙ ap (λ z. (p.high + 1 - p.low) * z) (volume-split ps f high (omega arith) a b)

is-le : (a b : ℕ) → a ≤ b → nat_le a b ≡ true
is-le a b h = grind (arith, nat_tests)

from-le : (a b : ℕ) → nat_le a b ≡ true → a ≤ b
from-le a b h = grind (arith, nat_tests)

below-too : (m high n : ℕ) → m < high → nat_lt high n ≡ true → nat_lt m n ≡ true
below-too m high n a h = grind (arith, nat_tests)

intervals-split : (kinds : List Kind) (region : List Interval) (f high : ℕ) → f < length region → (side_of region f).low ≤ high → high < (side_of region f).high → intervals_fit kinds region ≡ true
    → (intervals_fit kinds (part_up_to region f high) ≡ true) × (intervals_fit kinds (part_above region f high) ≡ true)
intervals-split kinds [] f high l a b h = absurd (omega arith)
intervals-split [] (p ∷ ps) f high l a b h = (refl, refl)
intervals-split (k ∷ ks) (p ∷ ps) zero high l a b h =
    let g = and_parts (is_good k p) (intervals_fit ks ps) h in
    let t = and_parts (nat_le p.low p.high) (is_value k p.high) g.0 in
    let low : Interval = record { low = p.low; high = high } in
    let up : Interval = record { low = high + 1; high = p.high } in (
      and_from (is_good k low) (intervals_fit ks ps) (and_from (nat_le p.low high) (is_value k high) (is-le p.low high a) (below-too high p.high (2 ^ bits_of k) b t.1)) g.1,
      and_from (is_good k up) (intervals_fit ks ps) (and_from (nat_le (high + 1) p.high) (is_value k p.high) (is-le (high + 1) p.high (omega arith)) t.1) g.1,
    )
intervals-split (k ∷ ks) (p ∷ ps) (suc f) high l a b h =
    let g = and_parts (is_good k p) (intervals_fit ks ps) h in
    let r = intervals-split ks ps f high (omega arith) a b g.1 in
    (and_from (is_good k p) (intervals_fit ks (part_up_to ps f high)) g.0 r.0, and_from (is_good k p) (intervals_fit ks (part_above ps f high)) g.0 r.1)

-- Both parts fit the kinds of the region.
pub fit-split : (kinds : List Kind) (region : List Interval) (f high : ℕ) → f < length region → (side_of region f).low ≤ high → high < (side_of region f).high → parts_fit kinds region ≡ true
    → (parts_fit kinds (part_up_to region f high) ≡ true) × (parts_fit kinds (part_above region f high) ≡ true)
fit-split kinds region f high l a b h =
    let g = and_parts (length kinds == length region) (intervals_fit kinds region) h in
    let r = intervals-split kinds region f high l a b g.1 in
    let low : Interval = record { low = (side_of region f).low; high = high } in
    let up : Interval = record { low = high + 1; high = (side_of region f).high } in (
      and_from (length kinds == length (part_up_to region f high)) (intervals_fit kinds (part_up_to region f high)) (ap (λ n. length kinds == n) (length-set region f low) ∙ g.0) r.0,
      and_from (length kinds == length (part_above region f high)) (intervals_fit kinds (part_above region f high)) (ap (λ n. length kinds == n) (length-set region f up) ∙ g.0) r.1,
    )

-- The lower part begins with the region's least key.
pub start-kept : (region : List Interval) (f high : ℕ) → start_key (part_up_to region f high) ≡ start_key region
start-kept [] f high = refl
start-kept (p ∷ ps) zero high = refl
start-kept (p ∷ ps) (suc f) high = ap (λ z. p.low ∷ z) (start-kept ps f high)

-- The lower part holds its least key.
pub proper-kept : (region : List Interval) (f high : ℕ) → f < length region → (side_of region f).low ≤ high → parts_hold region (start_key region) ≡ true
    → parts_hold (part_up_to region f high) (start_key region) ≡ true
proper-kept [] f high l a h = absurd (omega arith)
proper-kept (p ∷ ps) zero high l a h =
    let g = and_parts (contains p p.low) (parts_hold ps (start_key ps)) h in
    and_from (nat_le p.low p.low && nat_le p.low high) (parts_hold ps (start_key ps)) (and_from (nat_le p.low p.low) (nat_le p.low high) (is-le p.low p.low (omega arith)) (is-le p.low high a)) g.1
proper-kept (p ∷ ps) (suc f) high l a h =
    let g = and_parts (contains p p.low) (parts_hold ps (start_key ps)) h in
    and_from (contains p p.low) (parts_hold (part_up_to ps f high) (start_key ps)) g.0 (proper-kept ps f high (omega arith) a g.1)

-- A region that holds its least key holds at least one key.
pub volume-some : (region : List Interval) → parts_hold region (start_key region) ≡ true → 1 ≤ volume region
volume-some [] h = omega arith
volume-some (p ∷ ps) h =
    let g = and_parts (contains p p.low) (parts_hold ps (start_key ps)) h in
    let t = and_parts (nat_le p.low p.low) (nat_le p.low p.high) g.0 in
    let le : p.low ≤ p.high = from-le p.low p.high t.1 in
    mul-le 1 1 (p.high + 1 - p.low) (volume ps) (omega arith) (volume-some ps g.1)

-- The element holds the region's least key, so in each field its interval begins no later and ends no earlier.
pub low-within : (element region : List Interval) (f : ℕ) → f < length region → f < length element → parts_hold element (start_key region) ≡ true
    → ((side_of element f).low ≤ (side_of region f).low) × ((side_of region f).low ≤ (side_of element f).high)
low-within element [] f l m h = absurd (omega arith)
low-within [] (p ∷ ps) f l m h = absurd (omega arith)
low-within (e ∷ es) (p ∷ ps) zero l m h =
    let g = and_parts (contains e p.low) (parts_hold es (start_key ps)) h in
    let t = and_parts (nat_le e.low p.low) (nat_le p.low e.high) g.0 in
    (from-le e.low p.low t.0, from-le p.low e.high t.1)
low-within (e ∷ es) (p ∷ ps) (suc f) l m h =
    let g = and_parts (contains e p.low) (parts_hold es (start_key ps)) h in
    low-within es ps f (omega arith) (omega arith) g.1

within-too : (elow ehigh low high v : ℕ) → elow ≤ low → high ≤ ehigh → (nat_le low v && nat_le v high) ≡ true → (nat_le elow v && nat_le v ehigh) ≡ true
within-too elow ehigh low high v a b h = grind (arith, nat_tests)

-- A region that ends no later than the element in any field, and whose least key the element holds, has only keys of the element.
pub inside-element : (element left : List Interval) → length left ≡ length element → parts_hold element (start_key left) ≡ true → ((k : ℕ) → k < length element → (side_of left k).high ≤ (side_of element k).high)
    → (key : List ℕ) → parts_hold left key ≡ true → parts_hold element key ≡ true
inside-element [] left n s c key h = refl
inside-element (e ∷ es) [] n s c key h = absurd (omega arith)
inside-element (e ∷ es) (p ∷ ps) n s c [] h = refl
inside-element (e ∷ es) (p ∷ ps) n s c (v ∷ vs) h =
    let g = and_parts (contains p v) (parts_hold ps vs) h in
    let q = and_parts (contains e p.low) (parts_hold es (start_key ps)) s in
    let t = and_parts (nat_le e.low p.low) (nat_le p.low e.high) q.0 in
    and_from (contains e v) (parts_hold es vs) (within-too e.low e.high p.low p.high v (from-le e.low p.low t.0) (c 0 (omega arith)) g.0)
    (inside-element es ps (omega arith) q.1 (λ k l. c (suc k) (omega arith)) vs g.1)

good-holds : (k : Kind) (p : Interval) → is_good k p ≡ true → contains p p.low ≡ true
good-holds k p h = let t = and_parts (nat_le p.low p.high) (is_value k p.high) h in and_from (nat_le p.low p.low) (nat_le p.low p.high) (is-le p.low p.low (omega arith)) t.0

intervals-hold : (kinds : List Kind) (region : List Interval) → length kinds ≡ length region → intervals_fit kinds region ≡ true → parts_hold region (start_key region) ≡ true
intervals-hold kinds [] n h = refl
intervals-hold [] (p ∷ ps) n h = absurd (omega arith)
intervals-hold (k ∷ ks) (p ∷ ps) n h =
    let g = and_parts (is_good k p) (intervals_fit ks ps) h in
    and_from (contains p p.low) (parts_hold ps (start_key ps)) (good-holds k p g.0) (intervals-hold ks ps (omega arith) g.1)

from-equal : (m n : ℕ) → (m == n) ≡ true → m ≡ n
from-equal m n h = grind (arith, nat_tests)

pub fit-long : (kinds : List Kind) (region : List Interval) → parts_fit kinds region ≡ true → length kinds ≡ length region
fit-long kinds region h = from-equal (length kinds) (length region) (and_parts (length kinds == length region) (intervals_fit kinds region) h).0

-- A region that fits kinds holds its least key.
pub fit-proper : (kinds : List Kind) (region : List Interval) → parts_fit kinds region ≡ true → parts_hold region (start_key region) ≡ true
fit-proper kinds region h =
    let g = and_parts (length kinds == length region) (intervals_fit kinds region) h in
    intervals-hold kinds region (fit-long kinds region h) g.1
