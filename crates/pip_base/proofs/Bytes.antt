-- Bytes that are taken and given, piece by piece.
use Rattle.std.proofs.Common.{◌≡◌, refl, sym, ◌∙◌, ap, ℕ, List, [], ◌++◌, Option, Some, None, append_assoc, append-nil, take, drop, length, ◌-◌, length-drop, arith}
use Rattle.std.proofs.lemmas.List.{take_all}
use Rattle.std.specs.Io.KnownBytes.{Consumes, Appends, IsAtEnd}

pub consumes-more : (a b c : Option (List ℕ)) (xs ys : List ℕ) → Consumes a b xs → Consumes b c ys → Consumes a c (xs ++ ys)
consumes-more None b c xs ys h k = tt
consumes-more (Some as') None c xs ys h k = absurd h
consumes-more (Some as') (Some bs) None xs ys h k = absurd k
consumes-more (Some as') (Some bs) (Some cs) xs ys h k = h ∙ ap (λ z. xs ++ z) k ∙ sym (append_assoc xs ys cs)

pub consumes-nothing : (a : Option (List ℕ)) → Consumes a a []
consumes-nothing None = tt
consumes-nothing (Some xs) = refl

pub consumes-all : (a b : Option (List ℕ)) (xs bytes : List ℕ) → Consumes a b xs → IsAtEnd b → a ≡ Some bytes → xs ≡ bytes
consumes-all None b xs bytes h e p = absurd (cc p)
consumes-all (Some as') None xs bytes h e p = absurd h
consumes-all (Some as') (Some bs) xs bytes h e p = let q : as' ≡ bytes = cc p in sym (sym q ∙ h ∙ ap (λ z. xs ++ z) e ∙ append-nil xs)

pub appends-more : (a b c : Option (List ℕ)) (xs ys : List ℕ) → Appends a b xs → Appends b c ys → Appends a c (xs ++ ys)
appends-more None b c xs ys h k = tt
appends-more (Some as') None c xs ys h k = absurd h
appends-more (Some as') (Some bs) None xs ys h k = absurd k
appends-more (Some as') (Some bs) (Some cs) xs ys h k = k ∙ ap (λ z. z ++ ys) h ∙ append_assoc as' xs ys

pub appends-nothing : (a : Option (List ℕ)) → Appends a a []
appends-nothing None = tt
appends-nothing (Some xs) = sym (append-nil xs)

-- the whole rest of a list, cut again
pub rest-cut : (n from : ℕ) (xs : List ℕ) → take n (take (length xs - from) (drop from xs)) ≡ take n (drop from xs)
rest-cut n from xs = ap (take n) (take_all (length xs - from) (drop from xs) (simp length-drop (omega arith)))
