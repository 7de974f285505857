-- Berths that all show one generation, and one more.
use Rattle.std.proofs.Common.{◌≡◌, List, [], ◌∷◌, ◌++◌, Option, Some, None}
use Rattle.history_laws.specs.States.{AllShow, AllAre}

module _ {T X : Type 0} where
  pub all_are_more : (state : T → X) (x : X) (vs : List T) (v : T) → AllAre state x vs → state v ≡ x → AllAre state x (vs ++ v ∷ [])
  all_are_more state x [] v all e = (e, tt)
  all_are_more state x (w ∷ vs) v all e = (all.0, all_are_more state x vs v all.1 e)

  pub all_show_more : (state : T → X) (x : X) (ys : List (Option T)) (v : T) → AllShow state x ys → state v ≡ x → AllShow state x (ys ++ Some v ∷ [])
  all_show_more state x [] v all e = (e, tt)
  all_show_more state x (Some w ∷ ys) v all e = (all.0, all_show_more state x ys v all.1 e)
  all_show_more state x (None ∷ ys) v all e = absurd all
