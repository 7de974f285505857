use Rattle.std.proofs.Common.{◌≡◌, ℕ, ◌≤◌, length, get_or, None}
use Rattle.pipapo_image.specs.Index.Built.{Passed}
use Rattle.pipapo_image.specs.Index.Grow.{chosen}
use Rattle.pipapo_image.specs.Index.Runs.{run_at}
use Rattle.pipapo_image.specs.Index.Shrink.{IsShrunk}
use Rattle.pipapo_image.proofs.index.drops.drop_runs.Given as goal

abbrev pub invariant-fields : goal.invariant-fields
invariant-fields l = record {
  fields : Passed (λ f a b. IsShrunk (run_at l.runs f) (chosen (get_or l.initial.others f None) a) b) l.initial.fields l.fields l.f;
  len : length l.others ≡ length l.initial.others;
  others : (k : ℕ) → l.f ≤ k → get_or l.others k None ≡ get_or l.initial.others k None;
}
