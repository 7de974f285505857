-- A word that is taken out of strings is taken out of their bytes.
use Rattle.std.proofs.Common.{◌≡◌, sym, ◌∙◌, ap, ℕ, suc, List, map, take, drop, ◌++◌}
use Rattle.std.proofs.lemmas.List.{map-append, take-map, drop-map}
use Rattle.std.specs.List.{remove}

pub map-remove : {X : Type 0} (f : X → List ℕ) (xs : List X) (i : ℕ) → map f (remove xs i) ≡ remove (map f xs) i
map-remove f xs i =
    map-append f (take i xs) (drop (suc i) xs) ∙ sym (ap (λ ys. ys ++ drop (suc i) (map f xs)) (take-map f i xs) ∙ ap (λ ys. map f (take i xs) ++ ys) (drop-map f (suc i) xs))
