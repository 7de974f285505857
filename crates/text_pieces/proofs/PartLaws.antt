-- What was appended, if no memory was found for the rest.
use Rattle.std.proofs.Common.{◌≡◌, refl, sym, ◌∙◌, ap, ℕ, zero, suc, ◌<◌, List, [], ◌∷◌, ◌++◌, length, take, drop, get_or, flat_map, append_assoc, append-nil, arith, Result, Ok, Err, OnErr}
use Rattle.std.proofs.lemmas.List.{get_or_default}
use Rattle.text_pieces.specs.Appends.{AppendsPart}

pub on_err : {T E P : Type 0} → (r : Result T E) → P → OnErr r P
on_err (Ok v) p = tt
on_err (Err e) p = p

-- Nothing was appended.
pub none_part : (old new text : List ℕ) → new ≡ old → AppendsPart old new text
none_part old new text same = record { part = []; rest = text; appended = same ∙ sym (append-nil old); front = refl }

module _ {X : Type 0} where
  -- The text of a list is the text of the items before a place, then of the item there, then of the items after it.
  pub split : (f : X → List ℕ) (xs : List X) (i : ℕ) (x : X) → i < length xs → x ≡ get_or xs i x
      → flat_map f xs ≡ flat_map f (take i xs) ++ (f x ++ flat_map f (drop (suc i) xs))
  split f [] i x h e = absurd (omega (arith, h))
  split f (y ∷ ys) zero x h e = ap (λ z. f z ++ flat_map f ys) (sym e)
  split f (y ∷ ys) (suc i) x h e = ap (λ r. f y ++ r) (split f ys i x (omega (arith, h)) e) ∙ sym (append_assoc (f y) (flat_map f (take i ys)) (f x ++ flat_map f (drop (suc i) ys)))

  -- The items before a place were appended, and a part of the item there.
  pub item_part : (f : X → List ℕ) (xs : List X) (i : ℕ) (x : X) (old mid new : List ℕ) → i < length xs → x ≡ get_or xs i x
      → mid ≡ old ++ flat_map f (take i xs) → AppendsPart mid new (f x) → AppendsPart old new (flat_map f xs)
  item_part f xs i x old mid new h e so_far here = record {
    part = flat_map f (take i xs) ++ here.part;
    rest = here.rest ++ flat_map f (drop (suc i) xs);
    appended = here.appended ∙ ap (λ m. m ++ here.part) so_far ∙ append_assoc old (flat_map f (take i xs)) here.part;
    front =
        split f xs i x h e
        ∙ ap (λ t. flat_map f (take i xs) ++ (t ++ flat_map f (drop (suc i) xs))) here.front
        ∙ ap (λ t. flat_map f (take i xs) ++ t) (append_assoc here.part here.rest (flat_map f (drop (suc i) xs)))
        ∙ sym (append_assoc (flat_map f (take i xs)) here.part (here.rest ++ flat_map f (drop (suc i) xs)));
  }

  pub item_part_at : (f : X → List ℕ) (xs : List X) (i : ℕ) (d : X) (old mid new : List ℕ) → i < length xs
      → mid ≡ old ++ flat_map f (take i xs) → AppendsPart mid new (f (get_or xs i d)) → AppendsPart old new (flat_map f xs)
  item_part_at f xs i d old mid new h so_far here = item_part f xs i (get_or xs i d) old mid new h (get_or_default xs i d (get_or xs i d) h) so_far here
