-- A key that is written field by field.
use Rattle.std.proofs.Common.{◌≡◌, sym, ◌∙◌, ap, ℕ, ◌+◌, ◌<◌, List, [], ◌∷◌, ◌++◌, length, get_or, set, map, take, slice_get, Some}
use Rattle.std.proofs.lemmas.List.{take_more, take_more_set, map-append}
use Rattle.std.proofs.lemmas.Option.{get_or_from_slice_get, slice_get_within}
use Rattle.set_model.specs.declared.kind.Interval.{Interval}

-- one more value, which is an end of the interval there
pub one-further : (which : Interval → ℕ) (parts : List Interval) (values : List ℕ) (f : ℕ) (p : Interval) → slice_get parts f ≡ Some p → f < length values
    → take f values ≡ map which (take f parts) → take (f + 1) (set values f (which p)) ≡ map which (take (f + 1) parts)
one-further which parts values f p at there before =
    let d : Interval = record { low = 0; high = 0 } in
    take_more_set values f (which p) there ∙ ap (λ xs. xs ++ which p ∷ []) before
    ∙ ap (λ q. map which (take f parts) ++ which q ∷ []) (sym (get_or_from_slice_get parts f p d at))
    ∙ sym (ap (map which) (take_more parts f d (slice_get_within parts f p at)) ∙ map-append which (take f parts) (get_or parts f d ∷ []))
