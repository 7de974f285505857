use Rattle.std.proofs.Common.{◌≡◌, ℕ, ◌≤◌, length, get_or, None}
use Rattle.set_tables.specs.Search.{of_field}
use Rattle.pipapo_image.specs.Index.Built.{Passed}
use Rattle.pipapo_image.specs.Index.Grow.{IsGrownBy, chosen}
use Rattle.pipapo_image.proofs.index.grow.add_columns.Given as goal

abbrev pub invariant-fields : goal.invariant-fields
invariant-fields l = record {
  fields : Passed (λ f a b. IsGrownBy (of_field l.columns f) (chosen (get_or l.initial.others f None) a) b) l.initial.fields l.fields l.f;
  len : length l.others ≡ length l.initial.others;
  others : (k : ℕ) → l.f ≤ k → get_or l.others k None ≡ get_or l.initial.others k None;
}
