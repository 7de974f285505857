-- The elements that stay when the expired ones leave.
use Rattle.std.proofs.Common.{◌≡◌, refl, sym, ◌∙◌, ap, ℕ, ◌+◌, ◌<◌, ◌≤◌, Bool, true, false, cond, nat_lt, not, List, [], ◌∷◌, ◌++◌, length, take, get_or, None, arith, flat_map, length-append, append-nil}
use Rattle.std.specs.Prelude.{filter, count_by}
use Rattle.std.proofs.lemmas.Bool.Decides.{nat_tests}
use Rattle.std.proofs.lemmas.List.Elements.{filter_more, All-get_or}
use Rattle.std.proofs.lemmas.List.Folds.{length-flat_map-take}
use Rattle.std.proofs.lemmas.List.Sums.{length-filter}
use Rattle.set_model.specs.declared.block.Block.{Block}
use Rattle.set_model.specs.declared.kind.Interval.{Interval}
use Rattle.set_model.specs.declared.element.Element.{Element}
use Rattle.set_model.specs.Expiry.{live}
use Rattle.set_model.specs.Key.{parts_fit}
use Rattle.set_model.specs.SetState.{State, field_rules, field_blocks, rules_limit, is_crowded, crowded_field, purged}
use Rattle.set_tables.specs.Tables.{split}
use Rattle.expiry_scan.specs.Expired.{is_expired}
use Rattle.pipapo_image.specs.declared.index.Index.{Index}
use Rattle.pipapo_image.specs.Image.Append.{with_last}
use Rattle.pipapo_image.specs.Image.{IsImage}
use Rattle.pipapo_image.proofs.GrowLaws.{number-none}

-- the set of those of the first n elements that stay, with the ids as at the start
abbrev pub kept : State → ℕ → ℕ → State
kept s now n = record s { elements = filter (λ e. live e now) (take n s.elements); next = 0 }

pub filter-fewer : (here : Element → List Block) (p : Element → Bool) (es : List Element) → length (flat_map here (filter p es)) ≤ length (flat_map here es)
filter-fewer here p [] = omega arith
filter-fewer here p (e ∷ es) = go (p e) (filter-fewer here p es) where
  go : (t : Bool) → length (flat_map here (filter p es)) ≤ length (flat_map here es) → length (flat_map here (cond t (e ∷ filter p es) (filter p es))) ≤ length (here e ++ flat_map here es)
  go true ih =
      let a = length-append (here e) (flat_map here (filter p es)) in
      let b = length-append (here e) (flat_map here es) in
      omega arith
  go false ih = let b = length-append (here e) (flat_map here es) in omega arith

not-above : (m n : ℕ) → m ≤ n → nat_lt n m ≡ false
not-above m n h = grind (arith, nat_tests)

pub has-room : (s : State) (parts : List Interval) → ((f : ℕ) → f < length s.kinds → length (field_rules s.kinds f s.elements) + length (field_blocks s.kinds f parts) ≤ rules_limit) → crowded_field s parts ≡ None
has-room s parts h = sym (number-none (is_crowded s parts) (length s.kinds) (λ f l. not-above (length (field_rules s.kinds f s.elements) + length (field_blocks s.kinds f parts)) rules_limit (h f l)))

-- an element of the list has room after those of the earlier elements that stay
pub room-kept : (s : State) (index : Index) (now i : ℕ) (e : Element) → IsImage s.kinds s.elements index → i < length s.elements → e ≡ get_or s.elements i e → crowded_field (kept s now i) e.parts ≡ None
room-kept s index now i e image h g =
    has-room (kept s now i) e.parts
    (λ f l.
    let few = image.few_rules f l in
    let a = filter-fewer (split s.kinds f) (λ z. live z now) (take i s.elements) in
    let b = length-flat_map-take (split s.kinds f) s.elements i e h in
    let c = ap (λ z. length (split s.kinds f z)) g in
    omega arith)

pub fit-at : (s : State) (index : Index) (i : ℕ) (e : Element) → IsImage s.kinds s.elements index → i < length s.elements → e ≡ get_or s.elements i e → parts_fit s.kinds e.parts ≡ true
fit-at s index i e image h g =
    let P : Element → Type 0 = λ z. parts_fit s.kinds z.parts ≡ true in
    ap (λ z. parts_fit s.kinds z.parts) g ∙ All-get_or P s.elements i e h image.fit

pub not-expired : (t : Bool) → false ≡ not t → t ≡ true
not-expired true h = refl
not-expired false h = absurd (cc h)

pub is-gone : (t : Bool) → true ≡ not t → t ≡ false
is-gone true h = absurd (cc h)
is-gone false h = refl

pub one-kept : (s : State) (now i : ℕ) (e : Element) → i < length s.elements → e ≡ get_or s.elements i e → live e now ≡ true → with_last (kept s now i) e ≡ kept s now (i + 1)
one-kept s now i e h g l =
    let p : Element → Bool = λ z. live z now in
    let make : List Element → State = λ es. record s { elements = es; next = 0 } in
    let here : p (get_or s.elements i e) ≡ true = ap p (sym g) ∙ l in
    sym (ap make (filter_more p s.elements i e h ∙ ap (λ t. filter p (take i s.elements) ++ cond t (get_or s.elements i e ∷ []) []) here ∙ ap (λ z. filter p (take i s.elements) ++ z ∷ []) (sym g)))

pub one-gone : (s : State) (now i : ℕ) (e : Element) → i < length s.elements → e ≡ get_or s.elements i e → live e now ≡ false → kept s now i ≡ kept s now (i + 1)
one-gone s now i e h g l =
    let p : Element → Bool = λ z. live z now in
    let make : List Element → State = λ es. record s { elements = es; next = 0 } in
    let here : p (get_or s.elements i e) ≡ false = ap p (sym g) ∙ l in
    sym (ap make (filter_more p s.elements i e h ∙ ap (λ t. filter p (take i s.elements) ++ cond t (get_or s.elements i e ∷ []) []) here ∙ append-nil (filter p (take i s.elements))))

-- if no element is expired, all stay
none-gone : (now : ℕ) (es : List Element) → length (filter (is_expired now) es) ≡ 0 → filter (λ e. live e now) es ≡ es
none-gone now [] h = refl
none-gone now (e ∷ es) h = go (live e now) h (λ g. none-gone now es g) where
  go : (t : Bool) → length (cond (not t) (e ∷ filter (is_expired now) es) (filter (is_expired now) es)) ≡ 0 → (length (filter (is_expired now) es) ≡ 0 → filter (λ z. live z now) es ≡ es)
      → cond t (e ∷ filter (λ z. live z now) es) (filter (λ z. live z now) es) ≡ e ∷ es
  go true g ih = ap (λ z. e ∷ z) (ih g)
  go false g ih = absurd (omega arith)

pub all_stay : (s : State) (now : ℕ) → count_by (is_expired now) s.elements ≡ 0 → s ≡ purged s now
all_stay s now h =
    let make : List Element → State = λ es. record s { elements = es } in
    ap make (sym (none-gone now s.elements (length-filter (is_expired now) s.elements ∙ h)))
