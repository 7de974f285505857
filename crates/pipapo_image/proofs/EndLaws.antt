-- The place of an element's rules among the ends.
use Rattle.std.proofs.Common.{◌≡◌, ◌∙◌, ap, ℕ, zero, suc, ◌+◌, ◌-◌, ◌<◌, ◌≤◌, ◌⊎◌, inl, inr, List, [], ◌∷◌, ◌++◌, length, take, get_or, arith, flat_map, length-append}
use Rattle.std.proofs.lemmas.Bool.{cases_lt}
use Rattle.std.proofs.lemmas.List.{length-replicate, get_or_append_left, get_or-append_right, get_or-replicate}
use Rattle.set_model.specs.declared.kind.Kind.{Kind}
use Rattle.set_model.specs.declared.element.Element.{Element}
use Rattle.set_model.specs.declared.block.Block.{Block}
use Rattle.set_model.specs.SetState.{field_rules}
use Rattle.set_tables.specs.declared.End.{End}
use Rattle.set_tables.specs.Tables.{split, ends, last_ends}
use Rattle.set_tables.proofs.UpdateLaws.{one_end, length-ends, ends-from}

pub end-below : (here : Element → List Block) (i : ℕ) (es : List Element) (p k : ℕ) (d : End) → k < length (flat_map here (take p es)) → (get_or (ends here i es) k d).place < i + p
end-below here i [] zero k d h = absurd (omega arith)
end-below here i [] (suc p) k d h = absurd (omega arith)
end-below here i (e ∷ es) zero k d h = absurd (omega arith)
end-below here i (e ∷ es) (suc p) k d h = go (cases_lt k (length (here e))) (λ g. end-below here (i + 1) es p (k - length (here e)) d g) where
  go : (k < length (here e)) ⊎ (length (here e) ≤ k) → (k - length (here e) < length (flat_map here (take p es)) → (get_or (ends here (i + 1) es) (k - length (here e)) d).place < (i + 1) + p)
      → (get_or (one_end here i e ++ ends here (i + 1) es) k d).place < i + suc p
  go (inl a) ih =
      let m = length-replicate (length (here e)) (let x : End = record { place = i; expiry = e.expiry } in x) in
      let q = get_or_append_left (one_end here i e) (ends here (i + 1) es) d k (omega arith) ∙ get_or-replicate (length (here e)) k (record { place = i; expiry = e.expiry }) d a in
      let r = ap (λ z. z.place) q in
      omega arith
  go (inr a) ih =
      let m = length-replicate (length (here e)) (let x : End = record { place = i; expiry = e.expiry } in x) in
      let q = get_or-append_right (one_end here i e) (ends here (i + 1) es) (length (here e)) k d m a in
      let r = ap (λ z. z.place) q in
      let h2 : k < length (here e ++ flat_map here (take p es)) = h in
      let n2 = length-append (here e) (flat_map here (take p es)) in
      let j = ih (omega arith) in
      omega arith

pub end-above : (here : Element → List Block) (i : ℕ) (es : List Element) (p k : ℕ) (d : End) → length (flat_map here (take p es)) ≤ k → k < length (ends here i es) → i + p ≤ (get_or (ends here i es) k d).place
end-above here i [] p k d h l = absurd (omega arith)
end-above here i (e ∷ es) zero k d h l = let a = ends-from here i i (e ∷ es) (omega arith) k d l in omega arith
end-above here i (e ∷ es) (suc p) k d h l =
    let n = length-append (here e) (flat_map here (take p es)) in
    let h2 : length (here e ++ flat_map here (take p es)) ≤ k = h in
    let l2 : k < length (one_end here i e ++ ends here (i + 1) es) = l in
    let m = length-replicate (length (here e)) (let x : End = record { place = i; expiry = e.expiry } in x) in
    let t = length-append (one_end here i e) (ends here (i + 1) es) in
    let q = get_or-append_right (one_end here i e) (ends here (i + 1) es) (length (here e)) k d m (omega arith) in
    let r = ap (λ z. z.place) q in
    let ih = end-above here (i + 1) es p (k - length (here e)) d (omega arith) (omega arith) in
    omega arith

-- a rule whose end has an earlier place comes before the rules of the element at that place
pub before-place : (kinds : List Kind) (es : List Element) (list : List End) (p k : ℕ) (d : End) → list ≡ last_ends kinds es → k < length list → (get_or list k d).place < p
    → k + 1 ≤ length (field_rules kinds (length kinds - 1) (take p es))
before-place kinds es list p k d e h less = go (cases_lt k (length (field_rules kinds (length kinds - 1) (take p es)))) where
  go : (k < length (field_rules kinds (length kinds - 1) (take p es))) ⊎ (length (field_rules kinds (length kinds - 1) (take p es)) ≤ k) → k + 1 ≤ length (field_rules kinds (length kinds - 1) (take p es))
  go (inl a) = omega arith
  go (inr a) =
      let r = ap (λ z. (get_or z k d).place) e in
      let n = ap length e in
      let q = end-above (split kinds (length kinds - 1)) 0 es p k d a (omega arith) in
      absurd (omega arith)

pub not-before-place : (kinds : List Kind) (es : List Element) (list : List End) (p k : ℕ) (d : End) → list ≡ last_ends kinds es → p ≤ (get_or list k d).place
    → length (field_rules kinds (length kinds - 1) (take p es)) ≤ k
not-before-place kinds es list p k d e more = go (cases_lt k (length (field_rules kinds (length kinds - 1) (take p es)))) where
  go : (k < length (field_rules kinds (length kinds - 1) (take p es))) ⊎ (length (field_rules kinds (length kinds - 1) (take p es)) ≤ k) → length (field_rules kinds (length kinds - 1) (take p es)) ≤ k
  go (inl a) =
      let r = ap (λ z. (get_or z k d).place) e in
      let q = end-below (split kinds (length kinds - 1)) 0 es p k d a in
      absurd (omega arith)
  go (inr a) = a

-- the rules of the first elements are at most all rules
pub rules-front : (here : Element → List Block) (es : List Element) (p : ℕ) → length (flat_map here (take p es)) ≤ length (flat_map here es)
rules-front here [] zero = omega arith
rules-front here [] (suc p) = omega arith
rules-front here (e ∷ es) zero = omega arith
rules-front here (e ∷ es) (suc p) =
    let ih = rules-front here es p in
    let a = length-append (here e) (flat_map here es) in
    let b = length-append (here e) (flat_map here (take p es)) in
    omega arith

pub rules-within : (kinds : List Kind) (es : List Element) (list : List End) (p : ℕ) → list ≡ last_ends kinds es → length (field_rules kinds (length kinds - 1) (take p es)) ≤ length list
rules-within kinds es list p e =
    let n = ap length e ∙ length-ends (split kinds (length kinds - 1)) 0 es in
    let m = rules-front (split kinds (length kinds - 1)) es p in
    omega arith
