use Rattle.std.proofs.Common.{◌≡◌, ℕ, ◌<◌, ◌≤◌, length, get_or}
use Rattle.mapping_table.specs.Spared.{Spared}
use Rattle.set_tables.specs.declared.Span.{Span}
use Rattle.set_tables.specs.Search.{of_field}
use Rattle.pipapo_image.specs.Index.Built.{EachChanged}
use Rattle.pipapo_image.proofs.index.grow.reserve_maps.Given as goal

abbrev pub invariant-maps : goal.invariant-maps
invariant-maps l = record {
  kept : EachChanged (λ a b. b.items ≡ a.items) l.initial.maps l.maps;
  room : (k : ℕ) (m : Spared Span) → k < l.f → length (of_field l.columns k) ≤ (get_or l.maps k m).spare;
}
