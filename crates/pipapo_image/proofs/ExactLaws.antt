-- The first element of exactly these intervals, found by the first element that holds their start
-- key.
use Rattle.std.proofs.Common.{◌≡◌, refl, sym, ◌∙◌, ap, ℕ, ◌-◌, ◌<◌, ◌≤◌, Bool, true, false, ◌&&◌, List, [], ◌∷◌, length, get_or, zip, Some, None, nat_le, arith}
use Rattle.std.specs.Prelude.{All, ◌==◌}
use Rattle.std.specs.List.{list_all}
use Rattle.std.proofs.lemmas.Bool.{and_parts, and_from}
use Rattle.std.proofs.lemmas.Bool.Decides.{nat_tests}
use Rattle.std.proofs.lemmas.List.{length-map}
use Rattle.std.proofs.lemmas.List.Elements.{All-get_or}
use Rattle.std.proofs.lemmas.List.Quantifiers.{position-Some}
use Rattle.mapping_table.proofs.LedLaws.{position-first, position-nowhere}
use Rattle.set_tables.specs.Core.{row_of, passes_fields}
use Rattle.set_tables.specs.Search.{key_tests}
use Rattle.set_tables.specs.Tables.{split, last_ends}
use Rattle.set_tables.proofs.UpdateLaws.{length-ends}
use Rattle.set_tables.proofs.RowLaws.{position-none, length-hits}
use Rattle.set_model.specs.declared.kind.Kind.{Kind}
use Rattle.set_model.specs.declared.kind.Interval.{Interval}
use Rattle.set_model.specs.declared.element.Element.{Element}
use Rattle.set_model.specs.Expiry.{live}
use Rattle.set_model.specs.Key.{parts_fit, intervals_fit, is_good, is_value, contains, parts_hold, same_parts, start_key}
use Rattle.set_model.specs.SetState.{State, answers, holds, place, is_exactly, element_at}
use Rattle.expiry_scan.proofs.PlaceLaws.{no_element}
use Rattle.pipapo_image.specs.Image.Among.{LeadsTo}
use Rattle.pipapo_image.specs.Image.Steps.{IsExactPlace}
use Rattle.pipapo_image.proofs.HitLaws.{key-hit}
use Rattle.pipapo_image.proofs.ImageUse.{parts-long, all-long}

same-low : (xl pl : ℕ) → (xl == pl) ≡ true → nat_le xl pl ≡ true
same-low xl pl a = grind (arith, nat_tests)

below-same : (xh ph pl : ℕ) → (xh == ph) ≡ true → nat_le pl ph ≡ true → nat_le pl xh ≡ true
below-same xh ph pl a b = grind (arith, nat_tests)

-- intervals that equal good ones hold the low ends of these
same-hold : (kinds : List Kind) (xs ps : List Interval) → length kinds ≡ length ps → intervals_fit kinds ps ≡ true → list_all (λ p. (p.0.low == p.1.low) && (p.0.high == p.1.high)) (zip xs ps) ≡ true
    → parts_hold xs (start_key ps) ≡ true
same-hold kinds [] ps n fit same = refl
same-hold kinds (x ∷ xs) [] n fit same = refl
same-hold [] (x ∷ xs) (p ∷ ps) n fit same = absurd (omega arith)
same-hold (k ∷ kinds) (x ∷ xs) (p ∷ ps) n fit same =
    let a = and_parts (is_good k p) (intervals_fit kinds ps) fit in
    let b = and_parts (nat_le p.low p.high) (is_value k p.high) a.0 in
    let s = and_parts ((x.low == p.low) && (x.high == p.high)) (list_all (λ p. (p.0.low == p.1.low) && (p.0.high == p.1.high)) (zip xs ps)) same in
    let t = and_parts (x.low == p.low) (x.high == p.high) s.0 in
    and_from (contains x p.low) (parts_hold xs (start_key ps)) (and_from (nat_le x.low p.low) (nat_le p.low x.high) (same-low x.low p.low t.0) (below-same x.high p.high p.low t.1 b.0))
    (same-hold kinds xs ps (omega arith) a.1 s.1)

-- an element of exactly these intervals holds the key with which they start
pub exact-holds : (kinds : List Kind) (parts : List Interval) (now : ℕ) (e : Element) → parts_fit kinds parts ≡ true → is_exactly parts now e ≡ true → answers (start_key parts) now e ≡ true
exact-holds kinds parts now e fit is =
    let a = and_parts (length kinds == length parts) (intervals_fit kinds parts) fit in
    let b = and_parts (live e now) (same_parts e.parts parts) is in
    let c = and_parts (length e.parts == length parts) (list_all (λ p. (p.0.low == p.1.low) && (p.0.high == p.1.high)) (zip e.parts parts)) b.1 in
    and_from (live e now) (holds e (start_key parts)) b.0 (same-hold kinds e.parts parts (sym (parts-long kinds parts fit)) a.1 c.1)

not-exact : (kinds : List Kind) (parts : List Interval) (now : ℕ) (e : Element) → parts_fit kinds parts ≡ true → answers (start_key parts) now e ≡ false → is_exactly parts now e ≡ false
not-exact kinds parts now e fit un = go (is_exactly parts now e) refl where
  go : (b : Bool) → is_exactly parts now e ≡ b → b ≡ false
  go false h = refl
  go true h = absurd (cc (exact-holds kinds parts now e fit h, un))

-- no element holds the start key
pub exact-nowhere : (s : State) (parts : List Interval) (now : ℕ) → parts_fit s.kinds parts ≡ true → None ≡ place s (start_key parts) now → IsExactPlace s parts now None
exact-nowhere s parts now fit h = record {
  value = position-nowhere (is_exactly parts now) s.elements no_element
      (λ k l. not-exact s.kinds parts now (get_or s.elements k no_element) fit (position-none (answers (start_key parts) now) s.elements k no_element (sym h) l));
  within = tt;
}

-- The first element that holds the start key has these intervals, or has others. No earlier element
-- has these intervals.
pub none-before : (s : State) (parts : List Interval) (now i : ℕ) → parts_fit s.kinds parts ≡ true → Some i ≡ place s (start_key parts) now
    → (k : ℕ) → k < i → is_exactly parts now (element_at s k) ≡ false
none-before s parts now i fit h k l =
    not-exact s.kinds parts now (element_at s k) fit ((position-Some (answers (start_key parts) now) s.elements i no_element (sym h)).2 k l)

pub exact-first : (s : State) (parts : List Interval) (now i : ℕ) → parts_fit s.kinds parts ≡ true → Some i ≡ place s (start_key parts) now → same_parts (element_at s i).parts parts ≡ true
    → IsExactPlace s parts now (Some i)
exact-first s parts now i fit h same =
    let found = position-Some (answers (start_key parts) now) s.elements i no_element (sym h) in
    let alive = and_parts (live (element_at s i) now) (holds (element_at s i) (start_key parts)) found.1 in
    record {
      value = position-first (is_exactly parts now) s.elements i no_element found.0 (none-before s parts now i fit h) (and_from (live (element_at s i) now) (same_parts (element_at s i).parts parts) alive.0 same);
      within = found.0;
    }

-- Intervals that don't fit are the intervals of no element.
same-fit : (kinds : List Kind) (xs ps : List Interval) → length kinds ≡ length xs → length xs ≡ length ps → intervals_fit kinds xs ≡ true
    → list_all (λ p. (p.0.low == p.1.low) && (p.0.high == p.1.high)) (zip xs ps) ≡ true → intervals_fit kinds ps ≡ true
same-fit [] xs ps n m fit same = refl
same-fit (k ∷ kinds) [] ps n m fit same = absurd (omega arith)
same-fit (k ∷ kinds) (x ∷ xs) [] n m fit same = absurd (omega arith)
same-fit (k ∷ kinds) (x ∷ xs) (p ∷ ps) n m fit same =
    let a = and_parts (is_good k x) (intervals_fit kinds xs) fit in
    let b = and_parts (nat_le x.low x.high) (is_value k x.high) a.0 in
    let s = and_parts ((x.low == p.low) && (x.high == p.high)) (list_all (λ p. (p.0.low == p.1.low) && (p.0.high == p.1.high)) (zip xs ps)) same in
    let t = and_parts (x.low == p.low) (x.high == p.high) s.0 in
    let low : x.low ≡ p.low = grind (arith, nat_tests, t.0) in
    let high : x.high ≡ p.high = grind (arith, nat_tests, t.1) in
    and_from (is_good k p) (intervals_fit kinds ps)
    (and_from (nat_le p.low p.high) (is_value k p.high) (ap (λ z. nat_le z p.high) (sym low) ∙ ap (λ z. nat_le x.low z) (sym high) ∙ b.0) (ap (is_value k) (sym high) ∙ b.1))
    (same-fit kinds xs ps (omega arith) (omega arith) a.1 s.1)

pub exact-unfit : (s : State) (parts : List Interval) (now : ℕ) → All (λ e. parts_fit s.kinds e.parts ≡ true) s.elements → parts_fit s.kinds parts ≡ false → IsExactPlace s parts now None
exact-unfit s parts now fit un = record {
  value = position-nowhere (is_exactly parts now) s.elements no_element (λ k l. go k l (is_exactly parts now (get_or s.elements k no_element)) refl);
  within = tt;
} where
  go : (k : ℕ) → k < length s.elements → (b : Bool) → is_exactly parts now (get_or s.elements k no_element) ≡ b → b ≡ false
  go k l false h = refl
  go k l true h =
      let e = get_or s.elements k no_element in
      let f : parts_fit s.kinds e.parts ≡ true = All-get_or (λ e. parts_fit s.kinds e.parts ≡ true) s.elements k no_element l fit in
      let a = and_parts (length s.kinds == length e.parts) (intervals_fit s.kinds e.parts) f in
      let b = and_parts (live e now) (same_parts e.parts parts) h in
      let c = and_parts (length e.parts == length parts) (list_all (λ p. (p.0.low == p.1.low) && (p.0.high == p.1.high)) (zip e.parts parts)) b.1 in
      let n : length s.kinds ≡ length e.parts = sym (parts-long s.kinds e.parts f) in
      let m : length e.parts ≡ length parts = grind (arith, nat_tests, c.0) in
      let r : (length s.kinds == length parts) ≡ true = grind (arith, nat_tests, n, m) in
      absurd (cc (and_from (length s.kinds == length parts) (intervals_fit s.kinds parts) r (same-fit s.kinds e.parts parts n m a.1 c.1), un))

-- ---- by the rules that the start key leads to

start-long : (kinds : List Kind) (parts : List Interval) → parts_fit kinds parts ≡ true → length (start_key parts) ≡ length kinds
start-long kinds parts fit = length-map parts (λ part. part.low) ∙ parts-long kinds parts fit

-- they lead to each element of these intervals
pub exact-leads : (s : State) (parts : List Interval) (now : ℕ) (row : List Bool) → 1 ≤ length s.kinds → parts_fit s.kinds parts ≡ true → All (λ e. parts_fit s.kinds e.parts ≡ true) s.elements
    → row ≡ row_of s.kinds s.elements (key_tests (start_key parts)) (length s.kinds - 1) → LeadsTo s (is_exactly parts now) row
exact-leads s parts now row some fit all is =
    let f = length s.kinds - 1 in
    record {
      long = ap length is ∙ length-hits (split s.kinds f) (passes_fields s.kinds (key_tests (start_key parts)) f) (key_tests (start_key parts) f) s.elements ∙ sym (length-ends (split s.kinds f) 0 s.elements);
      each = λ k h e.
          key-hit s.kinds s.elements (start_key parts) now (last_ends s.kinds s.elements) row k no_element some (start-long s.kinds parts fit) (all-long s.kinds s.elements all) refl is h
          (exact-holds s.kinds parts now (element_at s k) fit e);
    }
