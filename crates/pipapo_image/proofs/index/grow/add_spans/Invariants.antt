use Rattle.std.proofs.Common.{◌≡◌, ◌++◌, length}
use Rattle.std.specs.Prelude.{replicate}
use Rattle.set_tables.specs.Search.{of_field}
use Rattle.pipapo_image.specs.Index.Built.{Passed}
use Rattle.pipapo_image.specs.Index.Grow.{counts, new_span}
use Rattle.pipapo_image.proofs.index.grow.add_spans.Given as goal

abbrev pub invariant-maps : goal.invariant-maps
invariant-maps l = Passed (λ f a b. b.items ≡ a.items ++ replicate (length (of_field l.columns f)) (new_span (counts l.fields) l.columns f)) l.initial.maps l.maps l.f
