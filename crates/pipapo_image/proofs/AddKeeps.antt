-- What an addition keeps, case by case.
use Rattle.std.proofs.Common.{◌≡◌, refl, ℕ, Bool, true, false, Option, Some, None}
use Rattle.set_model.specs.declared.element.NewElement.{NewElement}
use Rattle.set_model.specs.declared.report.Why.{Why}
use Rattle.set_model.specs.SetState.{State, Addition, Refused, add, add_by, twin_place, start_in_the_way, end_in_the_way, sharing_in_the_way, is_full, crowded_field}

-- The set that is left has the kinds and the size of the one before. A refused addition leaves the
-- same set.
pub record KeepsSet (s : State) (a : Addition × State) : Type 0 where
  pub kinds : a.1.kinds ≡ s.kinds
  pub size : a.1.size ≡ s.size
  pub all : (why : Why) → Refused why ≡ a.0 → s ≡ a.1

by_case : (s : State) (e : NewElement) (twin x at_start at_end sharing : Option ℕ) (full : Bool) (crowded : Option ℕ) → KeepsSet s (add_by s e twin x at_start at_end sharing full crowded)
by_case s e (Some i) None at_start at_end sharing full crowded = record { kinds = refl; size = refl; all = λ why h. absurd (cc h) }
by_case s e (Some i) (Some m) at_start at_end sharing full crowded = record { kinds = refl; size = refl; all = λ why h. absurd (cc h) }
by_case s e None x (Some i) at_end sharing full crowded = record { kinds = refl; size = refl; all = λ why h. refl }
by_case s e None x None (Some i) sharing full crowded = record { kinds = refl; size = refl; all = λ why h. refl }
by_case s e None x None None (Some i) full crowded = record { kinds = refl; size = refl; all = λ why h. refl }
by_case s e None x None None None true crowded = record { kinds = refl; size = refl; all = λ why h. refl }
by_case s e None x None None None false (Some f) = record { kinds = refl; size = refl; all = λ why h. refl }
by_case s e None x None None None false None = record { kinds = refl; size = refl; all = λ why h. absurd (cc h) }

pub add_keeps : (s : State) (e : NewElement) (now : ℕ) → KeepsSet s (add s e now)
add_keeps s e now =
    by_case s e (twin_place s e.parts now) e.expiry (start_in_the_way s e.parts now) (end_in_the_way s e.parts now) (sharing_in_the_way s e.parts now) (is_full s) (crowded_field s e.parts)
