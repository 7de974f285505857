-- The places of an element's rules among the spans of a field.
use Rattle.std.proofs.Common.{◌≡◌, sym, ◌∙◌, ap, ℕ, zero, suc, ◌+◌, ◌-◌, ◌<◌, ◌≤◌, ◌⊎◌, inl, inr, List, [], ◌∷◌, ◌++◌, length, take, get_or, arith, flat_map, length-append, add-zero}
use Rattle.std.specs.Prelude.{All}
use Rattle.std.proofs.lemmas.Bool.{cases_lt}
use Rattle.std.proofs.lemmas.List.{length-replicate, get_or_append_left, get_or-append_right, get_or-replicate}
use Rattle.std.proofs.lemmas.List.Elements.{All-head, All-tail}
use Rattle.set_model.specs.declared.element.Element.{Element}
use Rattle.set_model.specs.declared.block.Block.{Block}
use Rattle.set_tables.specs.declared.Span.{Span}
use Rattle.set_tables.specs.Tables.{spans}
use Rattle.set_tables.proofs.UpdateLaws.{one_span, length-spans, spans-from}
use Rattle.pipapo_image.proofs.EndLaws.{rules-front}

-- the first span of the element at a place: its rules in the next field
pub span-at : (here next : Element → List Block) (from : ℕ) (es : List Element) (i : ℕ) (d : Element) (s : Span) → i < length es → 1 ≤ length (here (get_or es i d))
    → get_or (spans here next from es) (length (flat_map here (take i es))) s ≡ record { first = from + length (flat_map next (take i es)); count = length (next (get_or es i d)) }
span-at here next from [] i d s h some = absurd (omega arith)
span-at here next from (e ∷ es) zero d s h some =
    let m = length-replicate (length (here e)) (let x : Span = record { first = from; count = length (next e) } in x) in
    let make : ℕ → Span = λ n. record { first = n; count = length (next e) } in
    get_or_append_left (one_span here next from e) (spans here next (from + length (next e)) es) s 0 (omega arith)
    ∙ get_or-replicate (length (here e)) 0 (record { first = from; count = length (next e) }) s some
    ∙ ap make (sym (add-zero from))
span-at here next from (e ∷ es) (suc i) d s h some =
    let m = length-replicate (length (here e)) (let x : Span = record { first = from; count = length (next e) } in x) in
    let n = length-append (here e) (flat_map here (take i es)) in
    let far = length-append (next e) (flat_map next (take i es)) in
    let make : ℕ → Span = λ k. record { first = k; count = length (next (get_or es i d)) } in
    let back : length (here e ++ flat_map here (take i es)) - length (here e) ≡ length (flat_map here (take i es)) = omega arith in
    let on : (from + length (next e)) + length (flat_map next (take i es)) ≡ from + length (next e ++ flat_map next (take i es)) = omega arith in
    get_or-append_right (one_span here next from e) (spans here next (from + length (next e)) es) (length (here e)) (length (here e ++ flat_map here (take i es))) s m (omega arith)
    ∙ ap (λ k. get_or (spans here next (from + length (next e)) es) k s) back
    ∙ span-at here next (from + length (next e)) es i d s (omega arith) some
    ∙ ap make on

span-below : (here next : Element → List Block) (from : ℕ) (es : List Element) (p k : ℕ) (d : Span) → All (λ e. 1 ≤ length (next e)) es → k < length (flat_map here (take p es))
    → (get_or (spans here next from es) k d).first < from + length (flat_map next (take p es))
span-below here next from [] zero k d some h = absurd (omega arith)
span-below here next from [] (suc p) k d some h = absurd (omega arith)
span-below here next from (e ∷ es) zero k d some h = absurd (omega arith)
span-below here next from (e ∷ es) (suc p) k d some h =
    let P : Element → Type 0 = λ z. 1 ≤ length (next z) in
    go (cases_lt k (length (here e))) (All-head P e es some) (λ g. span-below here next (from + length (next e)) es p (k - length (here e)) d (All-tail P e es some) g) where
      go : (k < length (here e)) ⊎ (length (here e) ≤ k) → 1 ≤ length (next e)
          → (k - length (here e) < length (flat_map here (take p es)) → (get_or (spans here next (from + length (next e)) es) (k - length (here e)) d).first < (from + length (next e)) + length (flat_map next (take p es)))
          → (get_or (one_span here next from e ++ spans here next (from + length (next e)) es) k d).first < from + length (next e ++ flat_map next (take p es))
      go (inl a) one ih =
          let m = length-replicate (length (here e)) (let x : Span = record { first = from; count = length (next e) } in x) in
          let q = get_or_append_left (one_span here next from e) (spans here next (from + length (next e)) es) d k (omega arith)
          ∙ get_or-replicate (length (here e)) k (record { first = from; count = length (next e) }) d a in
          let r = ap (λ z. z.first) q in
          let far = length-append (next e) (flat_map next (take p es)) in
          omega arith
      go (inr a) one ih =
          let m = length-replicate (length (here e)) (let x : Span = record { first = from; count = length (next e) } in x) in
          let q = get_or-append_right (one_span here next from e) (spans here next (from + length (next e)) es) (length (here e)) k d m a in
          let r = ap (λ z. z.first) q in
          let h2 : k < length (here e ++ flat_map here (take p es)) = h in
          let n2 = length-append (here e) (flat_map here (take p es)) in
          let far = length-append (next e) (flat_map next (take p es)) in
          let j = ih (omega arith) in
          omega arith

span-above : (here next : Element → List Block) (from : ℕ) (es : List Element) (p k : ℕ) (d : Span) → length (flat_map here (take p es)) ≤ k → k < length (spans here next from es)
    → from + length (flat_map next (take p es)) ≤ (get_or (spans here next from es) k d).first
span-above here next from [] p k d h l = absurd (omega arith)
span-above here next from (e ∷ es) zero k d h l = let a = spans-from here next from from (e ∷ es) (omega arith) k d l in omega arith
span-above here next from (e ∷ es) (suc p) k d h l =
    let n = length-append (here e) (flat_map here (take p es)) in
    let far = length-append (next e) (flat_map next (take p es)) in
    let h2 : length (here e ++ flat_map here (take p es)) ≤ k = h in
    let l2 : k < length (one_span here next from e ++ spans here next (from + length (next e)) es) = l in
    let m = length-replicate (length (here e)) (let x : Span = record { first = from; count = length (next e) } in x) in
    let t = length-append (one_span here next from e) (spans here next (from + length (next e)) es) in
    let q = get_or-append_right (one_span here next from e) (spans here next (from + length (next e)) es) (length (here e)) k d m (omega arith) in
    let r = ap (λ z. z.first) q in
    let ih = span-above here next (from + length (next e)) es p (k - length (here e)) d (omega arith) (omega arith) in
    omega arith

-- Take a rule whose span begins before the next field's rules of the element at a place. It comes
-- before that element's rules here.
pub before-rule : (here next : Element → List Block) (es : List Element) (list : List Span) (p k first : ℕ) (d : Span) → list ≡ spans here next 0 es → first ≡ length (flat_map next (take p es))
    → k < length list → (get_or list k d).first < first → k + 1 ≤ length (flat_map here (take p es))
before-rule here next es list p k first d e n h less = go (cases_lt k (length (flat_map here (take p es)))) where
  go : (k < length (flat_map here (take p es))) ⊎ (length (flat_map here (take p es)) ≤ k) → k + 1 ≤ length (flat_map here (take p es))
  go (inl a) = omega arith
  go (inr a) =
      let r = ap (λ z. (get_or z k d).first) e in
      let m = ap length e in
      let q = span-above here next 0 es p k d a (omega arith) in
      absurd (omega arith)

pub not-before-rule : (here next : Element → List Block) (es : List Element) (list : List Span) (p k first : ℕ) (d : Span) → All (λ e. 1 ≤ length (next e)) es → list ≡ spans here next 0 es
    → first ≡ length (flat_map next (take p es)) → first ≤ (get_or list k d).first → length (flat_map here (take p es)) ≤ k
not-before-rule here next es list p k first d some e n more = go (cases_lt k (length (flat_map here (take p es)))) where
  go : (k < length (flat_map here (take p es))) ⊎ (length (flat_map here (take p es)) ≤ k) → length (flat_map here (take p es)) ≤ k
  go (inl a) =
      let r = ap (λ z. (get_or z k d).first) e in
      let q = span-below here next 0 es p k d some a in
      absurd (omega arith)
  go (inr a) = a

pub spans-front : (here next : Element → List Block) (es : List Element) (list : List Span) (p : ℕ) → list ≡ spans here next 0 es → length (flat_map here (take p es)) ≤ length list
spans-front here next es list p e =
    let n = ap length e ∙ length-spans here next 0 es in
    let m = rules-front here es p in
    omega arith
