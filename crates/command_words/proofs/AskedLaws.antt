-- What the words of `get` ask, step by step.
use Rattle.std.proofs.Common.{◌≡◌, sym, ◌∙◌, ap, ℕ, Bool, true, false, List, Option, Some, None, option_map}
use Rattle.command_words.specs.GetWords.{Asked, asked, after_mark, after_at, named, marked, timed}

-- a result that was found, and none, as others see them
pub none-seen : {A B : Type 0} (g : A → B) (r : Option A) (x : Option B) → r ≡ None → option_map g r ≡ x → None ≡ x
none-seen g r x is e = ap (option_map g) (sym is) ∙ e

pub some-seen : {A B : Type 0} (g : A → B) (r : Option A) (a : A) (x : Option B) → r ≡ Some a → option_map g r ≡ x → Some (g a) ≡ x
some-seen g r a x is e = ap (option_map g) (sym is) ∙ e

module _ (ws rest : List (List ℕ)) (mark : Bool) (first : (mark, rest) ≡ after_mark ws) where
  timed-so : (found : Option (Option ℕ × List (List ℕ))) → found ≡ after_at rest → timed mark found ≡ asked ws
  unfolding asked
  timed-so found e = ap (timed mark) e ∙ ap (λ (p : Bool × List (List ℕ)). timed p.0 (after_at p.1)) first

  pub asked-none : None ≡ after_at rest → None ≡ asked ws
  asked-none e = timed-so None e

  pub asked-marked : (moment : Option ℕ) (more : List (List ℕ)) (a : Option Asked) → Some (moment, more) ≡ after_at rest → mark ≡ true → a ≡ named true moment more → a ≡ asked ws
  asked-marked moment more a e is h = h ∙ ap (λ b. marked b moment more) (sym is) ∙ timed-so (Some (moment, more)) e

  pub asked-later : (moment : Option ℕ) (more last : List (List ℕ)) (second : Bool) (a : Option Asked) → Some (moment, more) ≡ after_at rest → mark ≡ false → (second, last) ≡ after_mark more → a ≡ named second moment last → a ≡ asked ws
  asked-later moment more last second a e is two h = h ∙ ap (λ (p : Bool × List (List ℕ)). named p.0 moment p.1) two ∙ ap (λ b. marked b moment more) (sym is) ∙ timed-so (Some (moment, more)) e
