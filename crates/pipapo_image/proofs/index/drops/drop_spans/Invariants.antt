use Rattle.std.proofs.Common.{◌≡◌, suc}
use Rattle.set_tables.specs.Rows.{spans_without}
use Rattle.pipapo_image.specs.Index.Built.{Passed}
use Rattle.pipapo_image.specs.Index.Runs.{run_at}
use Rattle.pipapo_image.proofs.index.drops.drop_spans.Given as goal

abbrev pub invariant-maps : goal.invariant-maps
invariant-maps l = Passed (λ f a b. b.items ≡ spans_without a.items (run_at l.runs f).first (run_at l.runs f).count (run_at l.runs (suc f)).count) l.initial.maps l.maps l.f
