-- What a word has after a front.
use Rattle.std.proofs.Common.{◌≡◌, refl, sym, ◌∙◌, ap, ℕ, ◌+◌, ◌==◌, Bool, true, false, cond, List, [], ◌∷◌, ◌++◌, length, drop, Option, Some, None, eqb-true, eq-eqb}
use Rattle.std.specs.Prelude.{MatchOption, option_map}
use Rattle.std.specs.Str.Pattern.{FindsTextPrefix}
use Rattle.std.specs.Borrow.{Bor}
use Rattle.command_words.specs.Fronts.{after_front}

pub front-behind : (front rest : List ℕ) → after_front front (front ++ rest) ≡ Some rest
front-behind [] rest = refl
front-behind (b ∷ front) rest = rw (eq-eqb b b refl) (front-behind front rest)

pub front-found : (front word rest : List ℕ) → after_front front word ≡ Some rest → word ≡ front ++ rest
front-found [] word rest e = cc e
front-found (b ∷ front) [] rest e = absurd (cc e)
front-found (b ∷ front) (c ∷ word) rest e = go (b == c) refl e (λ f. front-found front word rest f) where
  go : (t : Bool) → (b == c) ≡ t → cond t (after_front front word) None ≡ Some rest → (after_front front word ≡ Some rest → word ≡ front ++ rest) → c ∷ word ≡ b ∷ (front ++ rest)
  go true is f onward = let same : b ≡ c = eqb-true b c is in let behind = onward f in cc (same, behind)
  go false is f onward = absurd (cc f)

-- what the code finds after a front
pub front-stripped : (front word : List ℕ) (r : Option (Bor (List ℕ))) → MatchOption r (FindsTextPrefix front word None) (λ x. (n : ℕ) × FindsTextPrefix front word (Some n) × (x.now ≡ drop n word) × (length x.now + n ≡ length word))
    → option_map (λ s. s.now) r ≡ after_front front word
front-stripped front word None lacks = go (after_front front word) refl where
  go : (o : Option (List ℕ)) → after_front front word ≡ o → None ≡ o
  go None e = refl
  go (Some rest) e = absurd (lacks rest (front-found front word rest e))
front-stripped front word (Some x) h = sym (ap (after_front front) (h.1.1 ∙ ap (λ behind. front ++ behind) (sym h.2)) ∙ front-behind front x.now)
