use Rattle.std.proofs.Common.{◌≡◌, ℕ, ◌<◌, false}
use Rattle.pipapo_image.specs.Index.Grow.{counts, is_over}
use Rattle.pipapo_image.proofs.index.columns.crowded_field.Given as goal

abbrev pub invariant-fields : goal.invariant-fields
invariant-fields l = (k : ℕ) → k < l.f → is_over (counts l.fields) l.columns k ≡ false
