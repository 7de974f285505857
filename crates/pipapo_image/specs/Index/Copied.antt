-- Copies of the parts of an index.
use Rattle.std.specs.Prelude.{◌≡◌, ℕ, List, get_or}
use Rattle.lookup_table.specs.declared.table.FieldTable.{FieldTable}
use Rattle.mapping_table.specs.Spared.{Spared}
use Rattle.set_tables.specs.declared.Span.{Span}
use Rattle.pipapo_image.specs.Index.Built.{Built}
use Rattle.pipapo_image.specs.Index.Grow.{IsKept}

-- copies of the first n tables
abbrev pub AreFieldsAgain : List FieldTable → List FieldTable → ℕ → Type 0
AreFieldsAgain fields others n = Built (λ f t. (d : FieldTable) → IsKept (get_or fields f d) t) others n

-- copies of the first n mappings
abbrev pub AreMapsAgain : List (Spared Span) → List (Spared Span) → ℕ → Type 0
AreMapsAgain maps others n = Built (λ f m. (d : Spared Span) → m.items ≡ (get_or maps f d).items) others n
