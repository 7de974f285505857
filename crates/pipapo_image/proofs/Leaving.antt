-- The expired elements are removed one by one, the last first.
use Rattle.std.proofs.Common.{◌≡◌, refl, sym, ◌∙◌, ap, ℕ, ◌+◌, ◌-◌, ◌<◌, Bool, true, false, cond, List, [], ◌∷◌, ◌++◌, length, take, drop, get_or, arith, append_assoc}
use Rattle.std.specs.Prelude.{filter, remove}
use Rattle.std.proofs.lemmas.List.{take_more, drop_more, length-take-le, get_or_append_left, get_or-take}
use Rattle.std.proofs.lemmas.List.Edits.{remove-append_right}
use Rattle.set_model.specs.declared.element.Element.{Element}
use Rattle.set_model.specs.Expiry.{live}
use Rattle.set_model.specs.SetState.{State, without_at}
use Rattle.expiry_scan.proofs.PlaceLaws.{no_element}
use Rattle.pipapo_image.specs.Image.Steps.{without_expired_at}

-- the set without the expired elements from place n on
abbrev pub purged_from : State → ℕ → ℕ → State
purged_from s now n = record s { elements = take n s.elements ++ filter (λ e. live e now) (drop n s.elements) }

-- the elements before a place, the element there, and the live ones after it
ahead : (es : List Element) (now i : ℕ) (d : Element) → i < length es
    → take (i + 1) es ++ filter (λ e. live e now) (drop (i + 1) es) ≡ take i es ++ get_or es i d ∷ filter (λ e. live e now) (drop (i + 1) es)
ahead es now i d h =
    let rest = filter (λ e. live e now) (drop (i + 1) es) in
    ap (λ z. z ++ rest) (take_more es i d h) ∙ append_assoc (take i es) (get_or es i d ∷ []) rest

behind : (es : List Element) (now i : ℕ) (d : Element) (t : Bool) → i < length es → live (get_or es i d) now ≡ t
    → take i es ++ filter (λ e. live e now) (drop i es) ≡ take i es ++ cond t (get_or es i d ∷ filter (λ e. live e now) (drop (i + 1) es)) (filter (λ e. live e now) (drop (i + 1) es))
behind es now i d t h l =
    let rest = filter (λ e. live e now) (drop (i + 1) es) in
    ap (λ z. take i es ++ filter (λ e. live e now) z) (drop_more es i d h) ∙ ap (λ b. take i es ++ cond b (get_or es i d ∷ rest) rest) l

same-item : (es : List Element) (now i : ℕ) (d : Element) → i < length es → get_or (take (i + 1) es ++ filter (λ e. live e now) (drop (i + 1) es)) i d ≡ get_or es i d
same-item es now i d h =
    let long = length-take-le (i + 1) es (omega arith) in
    get_or_append_left (take (i + 1) es) (filter (λ e. live e now) (drop (i + 1) es)) d i (omega arith) ∙ get_or-take (i + 1) es i d (omega arith)

removed-item : (xs ys : List Element) (e : Element) (i : ℕ) → length xs ≡ i → remove (xs ++ e ∷ ys) i ≡ xs ++ ys
removed-item xs ys e i h =
    let none : i - i ≡ 0 = omega arith in
    remove-append_right xs (e ∷ ys) i i h (omega arith) ∙ ap (λ n. xs ++ remove (e ∷ ys) n) none

one-of : (s : State) (now i : ℕ) (t : Bool) → i < length s.elements → live (get_or s.elements i no_element) now ≡ t → without_expired_at (purged_from s now (i + 1)) i now ≡ purged_from s now i
one-of s now i t h l =
    let es = s.elements in
    let rest = filter (λ e. live e now) (drop (i + 1) es) in
    let all = take (i + 1) es ++ rest in
    let make : List Element → State = λ z. record s { elements = z } in
    ap (λ e. cond (live e now) (make all) (make (remove all i))) (same-item es now i no_element h) ∙ ap (λ b. cond b (make all) (make (remove all i))) l ∙ go t l where
      go : (b : Bool) → live (get_or s.elements i no_element) now ≡ b
          → cond b (purged_from s now (i + 1)) (without_at (purged_from s now (i + 1)) i) ≡ purged_from s now i
      go true g =
          let make : List Element → State = λ z. record s { elements = z } in
          ap make (ahead s.elements now i no_element h ∙ sym (behind s.elements now i no_element true h g))
      go false g =
          let make : List Element → State = λ z. record s { elements = z } in
          let rest = filter (λ e. live e now) (drop (i + 1) s.elements) in
          ap make (ap (λ z. remove z i) (ahead s.elements now i no_element h) ∙ removed-item (take i s.elements) rest (get_or s.elements i no_element) i (length-take-le i s.elements (omega arith)) ∙ sym (behind s.elements now i no_element false h g))

-- One more element is looked at, before the ones that were looked at already.
pub one_looked_at : (s : State) (now i : ℕ) → i < length s.elements → without_expired_at (purged_from s now (i + 1)) i now ≡ purged_from s now i
one_looked_at s now i h = one-of s now i (live (get_or s.elements i no_element) now) h refl
