use Rattle.std.proofs.Common.{◌≡◌, ℕ, ◌<◌, get_or}
use Rattle.mapping_table.specs.Spared.{Spared, OwnsFrom}
use Rattle.set_tables.specs.declared.Span.{Span}
use Rattle.pipapo_image.specs.Index.Built.{EachChanged}
use Rattle.pipapo_image.specs.Index.Runs.{run_at}
use Rattle.pipapo_image.proofs.index.pages.own_spans.Given as goal

abbrev pub invariant-maps : goal.invariant-maps
invariant-maps l = record {
  kept : EachChanged (λ a b. b.items ≡ a.items) l.initial.maps l.maps;
  own : (k : ℕ) (m : Spared Span) → k < l.f → OwnsFrom (run_at l.runs k).first (get_or l.maps k m);
}
