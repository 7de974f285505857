-- Lists of regions, and how the keys of an element are taken out of a region field by field.
use Rattle.std.proofs.Common.{◌≡◌, refl, sym, ◌∙◌, ap, subst, ℕ, zero, suc, ◌+◌, ◌<◌, ◌≤◌, ◌⊎◌, inl, inr, Bool, true, false, ◌||◌, List, [], ◌∷◌, ◌++◌, length, arith, length-set, below_more}
use Rattle.std.specs.Prelude.{Option, None, Some}
use Rattle.std.proofs.lemmas.Option.{MatchOption-at_some, MatchOption-at_none}
use Rattle.std.proofs.lemmas.Bool.{or_cases, or_right}
use Rattle.std.proofs.lemmas.List.Folds.{list_any-append}
use Rattle.std.proofs.lemmas.List.Elements.{All-head, All-tail, All-cons, All-push}
use Rattle.std.proofs.Common.{get_or}
use Rattle.set_model.specs.declared.kind.Kind.{Kind}
use Rattle.set_model.specs.declared.kind.Interval.{Interval}
use Rattle.set_model.specs.Key.{parts_hold, parts_fit, start_key}
use Rattle.set_compare.specs.Search.{in_some, volume, total_volume, AllFit, side_of, part_up_to, part_above, IsCut, IsSubtracted}
use Rattle.set_compare.proofs.CutLaws.{hold-split, volume-split, fit-split, start-kept, proper-kept, volume-some, low-within, inside-element}

or-comm : (a b : Bool) → (a || b) ≡ (b || a)
or-comm true true = refl
or-comm true false = refl
or-comm false true = refl
or-comm false false = refl

pub some-push : (regions : List (List Interval)) (region : List Interval) (key : List ℕ) → in_some (regions ++ region ∷ []) key ≡ in_some (region ∷ regions) key
some-push regions region key =
    list_any-append (λ r. parts_hold r key) regions (region ∷ []) ∙ or-comm (in_some regions key) (parts_hold region key || false) ∙ ap (λ z. z || in_some regions key) (or-comm (parts_hold region key) false)

pub total-push : (regions : List (List Interval)) (region : List Interval) → total_volume (regions ++ region ∷ []) ≡ total_volume (region ∷ regions)
total-push [] region = refl
total-push (r ∷ rs) region = let e = total-push rs region in omega arith

-- A region with what is left of it after some fields, beside the other regions. The keys and their number are the same.
pub record AreSplit (f : ℕ) (element old : List Interval) (others : List (List Interval)) (left : List Interval) (rest : List (List Interval)) : Type 0 where
  pub keys : (key : List ℕ) → in_some (left ∷ rest) key ≡ in_some (old ∷ others) key
  pub volume : total_volume (left ∷ rest) ≡ total_volume (old ∷ others)
  pub fit : (kinds : List Kind) → AllFit kinds (old ∷ others) → AllFit kinds (left ∷ rest)
  pub proper : parts_hold left (start_key left) ≡ true
  pub starts : parts_hold element (start_key left) ≡ true
  pub long : length left ≡ length element
  pub capped : (k : ℕ) → k < f → (side_of left k).high ≤ (side_of element k).high

pub split-none : (element region : List Interval) (rest : List (List Interval)) → parts_hold region (start_key region) ≡ true → parts_hold element (start_key region) ≡ true → length region ≡ length element
    → AreSplit 0 element region rest region rest
split-none element region rest p s n = record { keys = λ key. refl; volume = refl; fit = λ kinds h. h; proper = p; starts = s; long = n; capped = λ k l. absurd (omega arith) }

-- A field in which the region ends no later than the element.
pub split-kept : (f : ℕ) (element old : List Interval) (others : List (List Interval)) (left : List Interval) (rest : List (List Interval)) → AreSplit f element old others left rest
    → (side_of left f).high ≤ (side_of element f).high → AreSplit (f + 1) element old others left rest
split-kept f element old others left rest s h = record {
  keys = s.keys;
  volume = s.volume;
  fit = s.fit;
  proper = s.proper;
  starts = s.starts;
  long = s.long;
  capped = below_more (λ k. (side_of left k).high ≤ (side_of element k).high) f s.capped h;
}

keys-cut : (left low above : List Interval) (rest : List (List Interval)) (key : List ℕ) → parts_hold left key ≡ (parts_hold low key || parts_hold above key)
    → in_some (low ∷ (rest ++ above ∷ [])) key ≡ in_some (left ∷ rest) key
keys-cut left low above rest key h =
    ap (λ z. parts_hold low key || z) (some-push rest above key) ∙ flat (parts_hold low key) (parts_hold above key) (in_some rest key) ∙ ap (λ z. z || in_some rest key) (sym h) where
      flat : (a b c : Bool) → (a || (b || c)) ≡ ((a || b) || c)
      flat true b c = refl
      flat false b c = refl

volume-cut : (left low above : List Interval) (rest : List (List Interval)) → volume low + volume above ≡ volume left → total_volume (low ∷ (rest ++ above ∷ [])) ≡ total_volume (left ∷ rest)
volume-cut left low above rest h = let e = total-push rest above in omega arith

other-side : (left : List Interval) (f high k : ℕ) → k < f → side_of (part_up_to left f high) k ≡ side_of left k
other-side [] f high k b = refl
other-side (p ∷ ps) zero high k b = absurd (omega arith)
other-side (p ∷ ps) (suc f) high zero b = refl
other-side (p ∷ ps) (suc f) high (suc k) b = other-side ps f high k (omega arith)

same-side : (left : List Interval) (f high : ℕ) → f < length left → side_of (part_up_to left f high) f ≡ record { low = (side_of left f).low; high = high }
same-side [] f high l = absurd (omega arith)
same-side (p ∷ ps) zero high l = refl
same-side (p ∷ ps) (suc f) high l = same-side ps f high (omega arith)

-- The values above the element's are taken out of a field.
pub split-more : (f high : ℕ) (element old : List Interval) (others : List (List Interval)) (left : List Interval) (rest : List (List Interval)) → AreSplit f element old others left rest
    → f < length left → high ≡ (side_of element f).high → high < (side_of left f).high
    → AreSplit (f + 1) element old others (part_up_to left f high) (rest ++ part_above left f high ∷ [])
split-more f high element old others left rest s l e h =
    let m : f < length element = omega (arith, s.long) in
    let w = low-within element left f l m s.starts in
    let a : (side_of left f).low ≤ high = omega (arith, w.1, e) in
    let low : Interval = record { low = (side_of left f).low; high = high } in
    let d : Interval = record { low = 0; high = 0 } in
    let P : ℕ → Type 0 = λ k. (side_of (part_up_to left f high) k).high ≤ (side_of element k).high in
    record {
      keys = λ key. keys-cut left (part_up_to left f high) (part_above left f high) rest key (hold-split left f high key l a h) ∙ s.keys key;
      volume = volume-cut left (part_up_to left f high) (part_above left f high) rest (volume-split left f high l a h) ∙ s.volume;
      fit = λ kinds all.
          let Q : List Interval → Type 0 = λ r. parts_fit kinds r ≡ true in
          let now = s.fit kinds all in
          let both = fit-split kinds left f high l a h (All-head Q left rest now) in
          All-cons Q (part_up_to left f high) (rest ++ part_above left f high ∷ []) both.0 (All-push Q rest (part_above left f high) (All-tail Q left rest now) both.1);
      proper = ap (λ z. parts_hold (part_up_to left f high) z) (start-kept left f high) ∙ proper-kept left f high l a s.proper;
      starts = ap (λ z. parts_hold element z) (start-kept left f high) ∙ s.starts;
      long = length-set left f low ∙ s.long;
      capped = below_more P f
          (λ k b. subst (λ (z : Interval). z.high ≤ (side_of element k).high) (sym (other-side left f high k b)) (s.capped k b))
          (subst (λ (z : Interval). z.high ≤ (side_of element f).high) (sym (same-side left f high l)) (omega (arith, e)));
    }

any-default : (xs : List Interval) (f : ℕ) (d : Interval) → f < length xs → get_or xs f d ≡ side_of xs f
any-default [] f d l = absurd (omega arith)
any-default (x ∷ xs) zero d l = refl
any-default (x ∷ xs) (suc f) d l = any-default xs f d (omega arith)

-- A field whose higher values are taken out, as one more region.
pub split-some : (f : ℕ) (d : Interval) (element old : List Interval) (others : List (List Interval)) (left new above : List Interval) (rest all : List (List Interval)) (o : Option (List Interval)) → AreSplit f element old others left rest
    → f < length element → IsCut left f (get_or element f d).high new o → o ≡ Some above → all ≡ rest ++ above ∷ [] → AreSplit (f + 1) element old others new all
split-some f d element old others left new above rest all o s l cut is more =
    let high = (get_or element f d).high in
    let part = MatchOption-at_some (((side_of left f).high ≤ high) × (new ≡ left)) (λ part. (high < (side_of left f).high) × (new ≡ part_up_to left f high) × (part ≡ part_above left f high)) above is cut.cut in
    let P : List Interval → Type 0 = λ z. AreSplit (f + 1) element old others z all in
    let Q : List (List Interval) → Type 0 = λ z. AreSplit (f + 1) element old others (part_up_to left f high) z in
    let e : rest ++ part_above left f high ∷ [] ≡ all = ap (λ z. rest ++ z ∷ []) (sym part.2) ∙ sym more in
    subst P (sym part.1) (subst Q e (split-more f high element old others left rest s (omega (arith, s.long)) (ap (λ (z : Interval). z.high) (any-default element f d l)) part.0))

-- A field that stays as it is.
pub split-same : (f : ℕ) (d : Interval) (element old : List Interval) (others : List (List Interval)) (left new : List Interval) (rest : List (List Interval)) (o : Option (List Interval)) → AreSplit f element old others left rest
    → f < length element → IsCut left f (get_or element f d).high new o → o ≡ None → AreSplit (f + 1) element old others new rest
split-same f d element old others left new rest o s l cut is =
    let high = (get_or element f d).high in
    let part = MatchOption-at_none (((side_of left f).high ≤ high) × (new ≡ left)) (λ part. (high < (side_of left f).high) × (new ≡ part_up_to left f high) × (part ≡ part_above left f high)) is cut.cut in
    let P : List Interval → Type 0 = λ z. AreSplit (f + 1) element old others z rest in
    let e : high ≡ (side_of element f).high = ap (λ (z : Interval). z.high) (any-default element f d l) in
    subst P (sym part.1) (split-kept f element old others left rest s (omega (arith, e, part.0)))

-- After the last field only keys of the element are left of the region.
pub split-all : (n : ℕ) (element old : List Interval) (others : List (List Interval)) (left : List Interval) (rest : List (List Interval)) → AreSplit n element old others left rest → n ≡ length element
    → IsSubtracted element (old ∷ others) rest
split-all n element old others left rest s e = record {
  kept = λ key un held. go key un (or_cases (parts_hold left key) (in_some rest key) (s.keys key ∙ held));
  inside = λ key held. sym (s.keys key) ∙ or_right (parts_hold left key) (in_some rest key) held;
  fit = λ kinds all. let Q : List Interval → Type 0 = λ r. parts_fit kinds r ≡ true in All-tail Q left rest (s.fit kinds all);
  fewer = let some = volume-some left s.proper in omega (arith, s.volume, some);
} where
  go : (key : List ℕ) → parts_hold element key ≡ false → (parts_hold left key ≡ true) ⊎ (in_some rest key ≡ true) → in_some rest key ≡ true
  go key un (inl h) = absurd (cc (inside-element element left s.long s.starts (λ k l. s.capped k (omega (arith, e))) key h, un))
  go key un (inr h) = h
