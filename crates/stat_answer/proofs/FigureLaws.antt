-- The figures of the elements and of the fields so far, and one more.
use Rattle.std.proofs.Common.{◌≡◌, refl, sym, ◌∙◌, ap, subst, ℕ, zero, suc, ◌+◌, ◌<◌, ◌≤◌, Bool, true, false, List, [], ◌∷◌, ◌++◌, length, take, get_or, filter, slice_get, drop, zip, Option, Some, None, append-nil, append_assoc, flat_map, arith}
use Rattle.std.specs.List.{fold, range_with_len}
use Rattle.std.proofs.lemmas.Option.{slice_get_within, get_or_from_slice_get}
use Rattle.std.proofs.lemmas.List.{take_more, drop_more, drop_all, length_push}
use Rattle.std.proofs.lemmas.List.Elements.{filter-append}
use Rattle.std.proofs.lemmas.List.Sums.{fold-append}
use Rattle.std.proofs.lemmas.Grind.{flat_map-append}
use Rattle.set_model.specs.declared.element.Element.{Element}
use Rattle.set_model.specs.declared.kind.Kind.{Kind}
use Rattle.stat_answer.specs.declared.ages.Ages.{Ages}
use Rattle.stat_answer.specs.Figures.{is_expiring, earlier, ages_of, aged, field_figures}
use Rattle.stat_answer.specs.StatText.{field_line, field_lines}

-- the ages of elements that all expire later
abbrev ages_all : List Element → Ages
ages_all es = record { expiring = length es; next = fold (λ next e. earlier next e.expiry) None es }

pushed : (es : List Element) (e : Element) → record { expiring = length es + 1; next = earlier (ages_all es).next e.expiry } ≡ ages_all (es ++ e ∷ [])
pushed es e =
    let long : length es + 1 ≡ length (es ++ e ∷ []) = sym (length_push es e) in
    let sooner : earlier (ages_all es).next e.expiry ≡ (ages_all (es ++ e ∷ [])).next = sym (fold-append (λ next d. earlier next d.expiry) None es (e ∷ [])) in
    (λ j. record { expiring = long j; next = sooner j })

one-more : (now : ℕ) (es : List Element) (e : Element) → aged now (ages_of now es) e ≡ ages_of now (es ++ e ∷ [])
one-more now es e = go (is_expiring now e) refl ∙ ap ages_all (sym (filter-append (is_expiring now) es (e ∷ []))) where
  go : (b : Bool) → is_expiring now e ≡ b → aged now (ages_of now es) e ≡ ages_all (filter (is_expiring now) es ++ filter (is_expiring now) (e ∷ []))
  go true h = rw h (pushed (filter (is_expiring now) es) e)
  go false h = rw h (ap ages_all (sym (append-nil (filter (is_expiring now) es))))

-- One element more.
pub aged-next : (now : ℕ) (es : List Element) (i : ℕ) (e : Element) (ages : Ages) → slice_get es i ≡ Some e → ages ≡ ages_of now (take i es) → aged now ages e ≡ ages_of now (take (i + 1) es)
aged-next now es i e ages at so_far =
    let further : take (i + 1) es ≡ take i es ++ e ∷ [] = take_more es i e (slice_get_within es i e at) ∙ ap (λ (y : Element). take i es ++ y ∷ []) (get_or_from_slice_get es i e e at) in
    ap (λ (a : Ages). aged now a e) so_far ∙ one-more now (take i es) e ∙ ap (ages_of now) (sym further)

pub aged-few : (now i : ℕ) (e : Element) (ages new : Ages) → new ≡ aged now ages e → ages.expiring ≤ i → new.expiring ≤ i + 1
aged-few now i e ages new is few = subst (λ (a : Ages). a.expiring ≤ i + 1) (sym is) (go (is_expiring now e) refl) where
  go : (b : Bool) → is_expiring now e ≡ b → (aged now ages e).expiring ≤ i + 1
  go true h = rw h (omega (arith, few))
  go false h = rw h (omega (arith, few))

range-suc : (a n k : ℕ) → k ≡ a + n → range_with_len a (suc n) ≡ range_with_len a n ++ k ∷ []
range-suc a zero k e = let same : a ≡ k = omega (arith, e) in ap (λ (m : ℕ). m ∷ []) same
range-suc a (suc n) k e = let next : k ≡ a + 1 + n = omega (arith, e) in ap (λ (ns : List ℕ). a ∷ ns) (range-suc (a + 1) n k next)

range-next : (a n k : ℕ) → k ≡ a + n → range_with_len a (n + 1) ≡ range_with_len a n ++ k ∷ []
range-next a n k e = let one : n + 1 ≡ suc n = omega arith in ap (range_with_len a) one ∙ range-suc a n k e

-- One field more.
pub lines-next : (kinds : List Kind) (es : List Element) (n : ℕ) → field_lines kinds es (n + 1) ≡ field_lines kinds es n ++ field_line n (field_figures kinds es n)
lines-next kinds es n =
    let g : ℕ → List ℕ = λ f. field_line f (field_figures kinds es f) in
    ap (flat_map g) (range-next 0 n n (omega arith)) ∙ flat_map-append g (range_with_len 0 n) (n ∷ []) ∙ ap (λ t. flat_map g (range_with_len 0 n) ++ t) (append-nil (g n))

-- Two texts, and three, one after another.
pub two-parts : (old mid new a b : List ℕ) → mid ≡ old ++ a → new ≡ mid ++ b → new ≡ old ++ (a ++ b)
two-parts old mid new a b first second = second ∙ ap (λ m. m ++ b) first ∙ append_assoc old a b

pub three-parts : (old one two new a b c : List ℕ) → one ≡ old ++ a → two ≡ one ++ b → new ≡ two ++ c → new ≡ old ++ (a ++ (b ++ c))
three-parts old one two new a b c first second third = two-parts old one new a (b ++ c) first (two-parts one two new b c second third)

-- What is left of two lists side by side.
pub paired-more : {X Y : Type 0} (g : X × Y → List ℕ) (xs : List X) (ys : List Y) (i : ℕ) (x : X) (y : Y) → slice_get xs i ≡ Some x → slice_get ys i ≡ Some y
    → flat_map g (zip (drop i xs) (drop i ys)) ≡ g (x, y) ++ flat_map g (zip (drop (i + 1) xs) (drop (i + 1) ys))
paired-more g xs ys i x y at there =
    ap (λ zs. flat_map g (zip zs (drop i ys))) (drop_more xs i x (slice_get_within xs i x at))
    ∙ ap (λ zs. flat_map g (zip (get_or xs i x ∷ drop (i + 1) xs) zs)) (drop_more ys i y (slice_get_within ys i y there))
    ∙ ap (λ z. g (z, get_or ys i y) ++ flat_map g (zip (drop (i + 1) xs) (drop (i + 1) ys))) (get_or_from_slice_get xs i x x at)
    ∙ ap (λ z. g (x, z) ++ flat_map g (zip (drop (i + 1) xs) (drop (i + 1) ys))) (get_or_from_slice_get ys i y y there)

-- A text of which something is left, one piece further.
pub further : (old mid new text here left : List ℕ) → mid ++ (here ++ left) ≡ old ++ text → new ≡ mid ++ here → new ++ left ≡ old ++ text
further old mid new text here left all e = ap (λ m. m ++ left) e ∙ append_assoc mid here left ∙ all

-- Nothing is left.
pub none-left : {X Y : Type 0} (g : X × Y → List ℕ) (xs : List X) (ys : List Y) (i : ℕ) (new all : List ℕ) → length xs ≤ i → new ++ flat_map g (zip (drop i xs) (drop i ys)) ≡ all → new ≡ all
none-left {X} {Y} g xs ys i new all past e =
    let none : drop i xs ≡ [] = drop_all i xs past in
    sym (append-nil new) ∙ (ap (λ (z : List X). new ++ flat_map g (zip z (drop i ys))) (sym none) ∙ e)
