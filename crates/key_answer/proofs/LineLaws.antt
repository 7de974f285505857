-- The lines of the sets of a script, as lists by the ids of elements.
use Rattle.std.proofs.Common.{◌≡◌, refl, sym, ◌∙◌, ap, subst, ℕ, zero, suc, ◌<◌, ◌==◌, false, true, List, [], ◌∷◌, ◌++◌, length, take, set, map, get_or, Option, Some, None, true≢false, eq-eqb, arith}
use Rattle.std.proofs.lemmas.List.{map-append, map-set, length-map, length-set, get_or-set_same, get_or-set_other}
use Rattle.key_answer.specs.Origin.{with_line, lines_of}
use Rattle.key_answer.specs.Tracing.{IsNoted}

-- One set more without lines.
push-none : (ls : List (List ℕ)) (l : List ℕ) → l ≡ [] → ((k : ℕ) → lines_of ls k ≡ []) → (k : ℕ) → lines_of (ls ++ l ∷ []) k ≡ []
push-none [] l e h zero = e
push-none [] l e h (suc k) = refl
push-none (x ∷ ls) l e h zero = h zero
push-none (x ∷ ls) l e h (suc k) = push-none ls l e (λ j. h (suc j)) k

pub none-more : {V : Type 0} (v : V) (items : V → List ℕ) (xs : List V) → items v ≡ [] → ((k : ℕ) → lines_of (map items xs) k ≡ []) → (k : ℕ) → lines_of (map items (xs ++ v ∷ [])) k ≡ []
none-more v items xs e h k = ap (λ (z : List (List ℕ)). lines_of z k) (map-append items xs (v ∷ [])) ∙ push-none (map items xs) (items v) e h k

mapped-at : {V : Type 0} (items : V → List ℕ) (xs : List V) (i : ℕ) (v : V) → i < length xs → v ≡ get_or xs i v → lines_of (map items xs) i ≡ items v
mapped-at items [] i v h e = absurd (omega (arith, h))
mapped-at items (x ∷ xs) zero v h e = ap items (sym e)
mapped-at items (x ∷ xs) (suc i) v h e = mapped-at items xs i v (omega (arith, h)) e

-- The lines of a set that has a line more.
pub noted-set : {V : Type 0} (v v' : V) (items : V → List ℕ) (xs : List V) (i line id : ℕ) (made : Option ℕ) (old : List (List ℕ)) → i < length xs → v ≡ get_or xs i v → made ≡ Some id → old ≡ map items xs → items v' ≡ take id (items v) ++ line ∷ []
    → IsNoted i line made old (map items (set xs i v'))
noted-set v v' items xs i line id made old within at made_is old_is put =
    subst (λ (o : Option ℕ). IsNoted i line o old (map items (set xs i v'))) (sym made_is)
    (subst (λ (ls : List (List ℕ)). IsNoted i line (Some id) ls (map items (set xs i v'))) (sym old_is)
    (let ls = map items xs in
    let moved : map items (set xs i v') ≡ set ls i (items v') = map-set items xs i v' in
    let long : length ls ≡ length xs = length-map xs items in
    let there : i < length ls = omega (arith, long, within) in record {
      one_each = ap (λ (z : List (List ℕ)). length z) moved ∙ length-set ls i (items v');
      own = λ _. ap (λ (z : List (List ℕ)). lines_of z i) moved ∙ get_or-set_same ls i (items v') [] there ∙ put ∙ ap (λ (z : List ℕ). take id z ++ line ∷ []) (sym (mapped-at items xs i v within at));
      others = λ other apart. ap (λ (z : List (List ℕ)). lines_of z other) moved ∙ get_or-set_other ls i other (items v') [] (λ e. true≢false (sym (eq-eqb i other (sym e)) ∙ apart));
    }))
