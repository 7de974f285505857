-- How the tables change with the list of elements.
use Rattle.std.proofs.Common.{◌≡◌, refl, sym, ◌∙◌, ap, ℕ, zero, suc, ◌+◌, ◌-◌, ◌≤◌, List, [], ◌∷◌, ◌++◌, length, map, take, drop, Option, arith, length-append, append_assoc, add-zero}
use Rattle.std.specs.Prelude.{replicate}
use Rattle.std.specs.List.{flat_map}
use Rattle.std.proofs.lemmas.List.{length-replicate, map-append, take_at, drop_at}
use Rattle.std.proofs.lemmas.List.Concat.{flat_map-append}
use Rattle.std.proofs.lemmas.List.Elements.{All-append, All-replicate}
use Rattle.std.specs.Prelude.{All}
use Rattle.set_model.specs.declared.element.Element.{Element}
use Rattle.set_model.specs.declared.block.Block.{Block}
use Rattle.set_model.specs.Runs.{without_run}
use Rattle.set_tables.specs.declared.Span.{Span}
use Rattle.set_tables.specs.declared.End.{End}
use Rattle.set_tables.specs.Rows.{lowered, lowered_place, spans_without, ends_without, end_renewed, ends_renewed}
use Rattle.set_tables.specs.Tables.{spans, ends}

pub length-spans : (here next : Element → List Block) (from : ℕ) (es : List Element) → length (spans here next from es) ≡ length (flat_map here es)
length-spans here next from [] = refl
length-spans here next from (e ∷ es) = simp (length-append, length-replicate, length-spans here next (from + length (next e)) es)

pub length-ends : (here : Element → List Block) (i : ℕ) (es : List Element) → length (ends here i es) ≡ length (flat_map here es)
length-ends here i [] = refl
length-ends here i (e ∷ es) = simp (length-append, length-replicate, length-ends here (i + 1) es)

-- ---- more elements at the end
pub spans-append : (here next : Element → List Block) (from : ℕ) (es others : List Element)
    → spans here next from (es ++ others) ≡ spans here next from es ++ spans here next (from + length (flat_map next es)) others
spans-append here next from [] others = rw (add-zero from) refl
spans-append here next from (e ∷ es) others =
    let far : (from + length (next e)) + length (flat_map next es) ≡ from + length (next e ++ flat_map next es) = omega (arith, length-append (next e) (flat_map next es)) in
    let ih = spans-append here next (from + length (next e)) es others in
    ap (λ z. replicate (length (here e)) (record { first = from; count = length (next e) }) ++ z)
    (ih ∙ ap (λ n. spans here next (from + length (next e)) es ++ spans here next n others) far)
    ∙ sym (append_assoc (replicate (length (here e)) (record { first = from; count = length (next e) })) (spans here next (from + length (next e)) es) (spans here next (from + length (next e ++ flat_map next es)) others))

pub ends-append : (here : Element → List Block) (i : ℕ) (es others : List Element) → ends here i (es ++ others) ≡ ends here i es ++ ends here (i + length es) others
ends-append here i [] others = rw (add-zero i) refl
ends-append here i (e ∷ es) others =
    let far : (i + 1) + length es ≡ i + suc (length es) = omega arith in
    let ih = ends-append here (i + 1) es others in
    ap (λ z. replicate (length (here e)) (record { place = i; expiry = e.expiry }) ++ z) (ih ∙ ap (λ n. ends here (i + 1) es ++ ends here n others) far)
    ∙ sym (append_assoc (replicate (length (here e)) (record { place = i; expiry = e.expiry })) (ends here (i + 1) es) (ends here (i + suc (length es)) others))

-- ---- lowered spans and places
map-replicate : {X Y : Type 0} (f : X → Y) (n : ℕ) (x : X) → map f (replicate n x) ≡ replicate n (f x)
map-replicate f zero x = refl
map-replicate f (suc n) x = ap (λ z. f x ∷ z) (map-replicate f n x)

pub lowered-spans : (here next : Element → List Block) (k from : ℕ) (es : List Element) → map (lowered k) (spans here next (k + from) es) ≡ spans here next from es
lowered-spans here next k from [] = refl
lowered-spans here next k from (e ∷ es) =
    let far : (k + from) + length (next e) ≡ k + (from + length (next e)) = omega arith in
    let back : (k + from) - k ≡ from = omega arith in
    let ih = lowered-spans here next k (from + length (next e)) es in
    map-append (lowered k) (replicate (length (here e)) (record { first = k + from; count = length (next e) })) (spans here next ((k + from) + length (next e)) es)
    ∙ ap (λ z. z ++ map (lowered k) (spans here next ((k + from) + length (next e)) es)) (map-replicate (lowered k) (length (here e)) (record { first = k + from; count = length (next e) }))
    ∙ ap (λ n. replicate (length (here e)) (record { first = n; count = length (next e) }) ++ map (lowered k) (spans here next ((k + from) + length (next e)) es)) back
    ∙ ap (λ z. replicate (length (here e)) (record { first = from; count = length (next e) }) ++ z) (ap (λ n. map (lowered k) (spans here next n es)) far ∙ ih)

pub lowered-ends : (here : Element → List Block) (i : ℕ) (es : List Element) → map lowered_place (ends here (i + 1) es) ≡ ends here i es
lowered-ends here i [] = refl
lowered-ends here i (e ∷ es) =
    let back : (i + 1) - 1 ≡ i = omega arith in
    let ih = lowered-ends here (i + 1) es in
    map-append lowered_place (replicate (length (here e)) (record { place = i + 1; expiry = e.expiry })) (ends here ((i + 1) + 1) es)
    ∙ ap (λ z. z ++ map lowered_place (ends here ((i + 1) + 1) es)) (map-replicate lowered_place (length (here e)) (record { place = i + 1; expiry = e.expiry }))
    ∙ ap (λ n. replicate (length (here e)) (record { place = n; expiry = e.expiry }) ++ map lowered_place (ends here ((i + 1) + 1) es)) back
    ∙ ap (λ z. replicate (length (here e)) (record { place = i; expiry = e.expiry }) ++ z) ih

-- ---- an element goes
take-front : {X : Type 0} (p m q : List X) (n : ℕ) → length p ≡ n → take n (p ++ (m ++ q)) ≡ p
take-front p m q n h = take_at p (m ++ q) n h

drop-front : {X : Type 0} (p m q : List X) (n k : ℕ) → length p ≡ n → length m ≡ k → drop (n + k) (p ++ (m ++ q)) ≡ q
drop-front p m q n k h g = ap (drop (n + k)) (sym (append_assoc p m q)) ∙ drop_at (p ++ m) q (n + k) (length-append p m ∙ (let e : length p + length m ≡ n + k = omega arith in e))

pub rules-without : (here : Element → List Block) (before after : List Element) (e : Element)
    → without_run (flat_map here (before ++ e ∷ after)) (length (flat_map here before)) (length (here e)) ≡ flat_map here (before ++ after)
rules-without here before after e =
    ap (λ z. without_run z (length (flat_map here before)) (length (here e))) (flat_map-append here before (e ∷ after))
    ∙ ap (λ z. z ++ drop (length (flat_map here before) + length (here e)) (flat_map here before ++ (here e ++ flat_map here after))) (take-front (flat_map here before) (here e) (flat_map here after) _ refl)
    ∙ ap (λ z. flat_map here before ++ z) (drop-front (flat_map here before) (here e) (flat_map here after) _ _ refl refl)
    ∙ sym (flat_map-append here before after)

-- the spans of an element's rules: each is the element's rules of the next field, from rule `from`
-- on
abbrev pub one_span : (Element → List Block) → (Element → List Block) → ℕ → Element → List Span
one_span here next from e = replicate (length (here e)) (record { first = from; count = length (next e) })

pub spans-without : (here next : Element → List Block) (before after : List Element) (e : Element)
    → spans_without (spans here next 0 (before ++ e ∷ after)) (length (flat_map here before)) (length (here e)) (length (next e)) ≡ spans here next 0 (before ++ after)
spans-without here next before after e =
    let n = length (flat_map next before) in
    let far : (0 + n) + length (next e) ≡ length (next e) + (0 + n) = omega arith in
    ap (λ z. spans_without z (length (flat_map here before)) (length (here e)) (length (next e))) (spans-append here next 0 before (e ∷ after))
    ∙ ap (λ z. z ++ map (lowered (length (next e))) (drop (length (flat_map here before) + length (here e)) (spans here next 0 before ++ (one_span here next (0 + n) e ++ spans here next ((0 + n) + length (next e)) after))))
    (take-front (spans here next 0 before) (one_span here next (0 + n) e) (spans here next ((0 + n) + length (next e)) after) _ (length-spans here next 0 before))
    ∙ ap (λ z. spans here next 0 before ++ map (lowered (length (next e))) z)
    (drop-front (spans here next 0 before) (one_span here next (0 + n) e) (spans here next ((0 + n) + length (next e)) after) _ _ (length-spans here next 0 before) (length-replicate (length (here e)) _)
    ∙ ap (λ k. spans here next k after) far)
    ∙ ap (λ z. spans here next 0 before ++ z) (lowered-spans here next (length (next e)) (0 + n) after)
    ∙ sym (spans-append here next 0 before after)

-- the ends of an element's rules: each has the element's place and expiry
abbrev pub one_end : (Element → List Block) → ℕ → Element → List End
one_end here i e = replicate (length (here e)) (record { place = i; expiry = e.expiry })

pub ends-without : (here : Element → List Block) (before after : List Element) (e : Element)
    → ends_without (ends here 0 (before ++ e ∷ after)) (length (flat_map here before)) (length (here e)) ≡ ends here 0 (before ++ after)
ends-without here before after e =
    let n = length before in
    ap (λ z. ends_without z (length (flat_map here before)) (length (here e))) (ends-append here 0 before (e ∷ after))
    ∙ ap (λ z. z ++ map lowered_place (drop (length (flat_map here before) + length (here e)) (ends here 0 before ++ (one_end here (0 + n) e ++ ends here ((0 + n) + 1) after))))
    (take-front (ends here 0 before) (one_end here (0 + n) e) (ends here ((0 + n) + 1) after) _ (length-ends here 0 before))
    ∙ ap (λ z. ends here 0 before ++ map lowered_place z)
    (drop-front (ends here 0 before) (one_end here (0 + n) e) (ends here ((0 + n) + 1) after) _ _ (length-ends here 0 before) (length-replicate (length (here e)) _))
    ∙ ap (λ z. ends here 0 before ++ z) (lowered-ends here (0 + n) after)
    ∙ sym (ends-append here 0 before after)

-- ---- an element's expiry is another
abbrev pub with_expiry : Option ℕ → Element → Element
with_expiry x e = record { id = e.id; parts = e.parts; expiry = x; comment = e.comment }

cut : {X : Type 0} (f : X → X) (p m q : List X) (n k : ℕ) → length p ≡ n → length m ≡ k
    → take n (p ++ (m ++ q)) ++ map f (take k (drop n (p ++ (m ++ q)))) ++ drop (n + k) (p ++ (m ++ q)) ≡ p ++ (map f m ++ q)
cut f p m q n k h g =
    ap (λ z. z ++ map f (take k (drop n (p ++ (m ++ q)))) ++ drop (n + k) (p ++ (m ++ q))) (take-front p m q n h)
    ∙ ap (λ z. p ++ map f (take k z) ++ drop (n + k) (p ++ (m ++ q))) (drop_at p (m ++ q) n h)
    ∙ ap (λ z. p ++ map f z ++ drop (n + k) (p ++ (m ++ q))) (take_at m q k g)
    ∙ ap (λ z. p ++ map f m ++ z) (drop-front p m q n k h g)
    ∙ append_assoc p (map f m) q

pub ends-renewed : (here : Element → List Block) (before after : List Element) (e : Element) (x : Option ℕ) → here (with_expiry x e) ≡ here e
    → ends_renewed (ends here 0 (before ++ e ∷ after)) (length (flat_map here before)) (length (here e)) x ≡ ends here 0 (before ++ with_expiry x e ∷ after)
ends-renewed here before after e x h =
    let n = length before in
    ap (λ z. ends_renewed z (length (flat_map here before)) (length (here e)) x) (ends-append here 0 before (e ∷ after))
    ∙ cut (end_renewed x) (ends here 0 before) (one_end here (0 + n) e) (ends here ((0 + n) + 1) after) _ _ (length-ends here 0 before) (length-replicate (length (here e)) _)
    ∙ ap (λ z. ends here 0 before ++ (z ++ ends here ((0 + n) + 1) after)) (map-replicate (end_renewed x) (length (here e)) (record { place = 0 + n; expiry = e.expiry }))
    ∙ ap (λ bs. ends here 0 before ++ (replicate (length bs) (record { place = 0 + n; expiry = x }) ++ ends here ((0 + n) + 1) after)) (sym h)
    ∙ sym (ends-append here 0 before (with_expiry x e ∷ after))

-- Neither rules nor spans read an expiry.
pub rules-renewed : (here : Element → List Block) (before after : List Element) (e : Element) (x : Option ℕ) → here (with_expiry x e) ≡ here e
    → flat_map here (before ++ with_expiry x e ∷ after) ≡ flat_map here (before ++ e ∷ after)
rules-renewed here before after e x h =
    flat_map-append here before (with_expiry x e ∷ after) ∙ ap (λ z. flat_map here before ++ (z ++ flat_map here after)) h ∙ sym (flat_map-append here before (e ∷ after))

pub spans-renewed : (here next : Element → List Block) (before after : List Element) (e : Element) (x : Option ℕ) → here (with_expiry x e) ≡ here e → next (with_expiry x e) ≡ next e
    → spans here next 0 (before ++ with_expiry x e ∷ after) ≡ spans here next 0 (before ++ e ∷ after)
spans-renewed here next before after e x h g =
    let n = length (flat_map next before) in
    spans-append here next 0 before (with_expiry x e ∷ after)
    ∙ ap (λ bs. spans here next 0 before ++ (replicate (length bs) (record { first = 0 + n; count = length (next (with_expiry x e)) }) ++ spans here next ((0 + n) + length (next (with_expiry x e))) after)) h
    ∙ ap (λ bs. spans here next 0 before ++ (replicate (length (here e)) (record { first = 0 + n; count = length bs }) ++ spans here next ((0 + n) + length bs) after)) g
    ∙ sym (spans-append here next 0 before (e ∷ after))

-- ---- what comes after an element that is removed
pub spans-from : (here next : Element → List Block) (low from : ℕ) (es : List Element) → low ≤ from → All (λ s. low ≤ s.first) (spans here next from es)
spans-from here next low from [] h = λ k d l. absurd (omega arith)
spans-from here next low from (e ∷ es) h =
    let P : Span → Type 0 = λ s. low ≤ s.first in
    All-append P (one_span here next from e) (spans here next (from + length (next e)) es) (All-replicate P (length (here e)) (record { first = from; count = length (next e) }) h)
    (spans-from here next low (from + length (next e)) es (omega arith))

pub ends-from : (here : Element → List Block) (low i : ℕ) (es : List Element) → low ≤ i → All (λ e. low ≤ e.place) (ends here i es)
ends-from here low i [] h = λ k d l. absurd (omega arith)
ends-from here low i (e ∷ es) h =
    let P : End → Type 0 = λ z. low ≤ z.place in
    All-append P (one_end here i e) (ends here (i + 1) es) (All-replicate P (length (here e)) (record { place = i; expiry = e.expiry }) h)
    (ends-from here low (i + 1) es (omega arith))

pub spans-later : (here next : Element → List Block) (before after : List Element) (e : Element)
    → All (λ s. length (next e) ≤ s.first) (drop (length (flat_map here before) + length (here e)) (spans here next 0 (before ++ e ∷ after)))
spans-later here next before after e =
    let n = length (flat_map next before) in
    rw (
      spans-append here next 0 before (e ∷ after),
      drop-front (spans here next 0 before) (one_span here next (0 + n) e) (spans here next ((0 + n) + length (next e)) after) _ _ (length-spans here next 0 before) (length-replicate (length (here e)) _),
    )
    (spans-from here next (length (next e)) ((0 + n) + length (next e)) after (omega arith))

pub ends-later : (here : Element → List Block) (before after : List Element) (e : Element)
    → All (λ z. 1 ≤ z.place) (drop (length (flat_map here before) + length (here e)) (ends here 0 (before ++ e ∷ after)))
ends-later here before after e =
    let n = length before in
    rw (
      ends-append here 0 before (e ∷ after),
      drop-front (ends here 0 before) (one_end here (0 + n) e) (ends here ((0 + n) + 1) after) _ _ (length-ends here 0 before) (length-replicate (length (here e)) _),
    )
    (ends-from here 1 ((0 + n) + 1) after (omega arith))
