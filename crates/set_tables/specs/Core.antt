-- The row of a walk after each field.
use Rattle.std.specs.Prelude.{ℕ, zero, suc, Bool, true, false, ◌&&◌, List, map, slice_get, slice_index, Option, Some, None}
use Rattle.std.specs.List.{flat_map, list_any}
use Rattle.set_model.specs.declared.kind.Kind.{Kind}
use Rattle.set_model.specs.declared.kind.Interval.{Interval}
use Rattle.set_model.specs.declared.element.Element.{Element}
use Rattle.set_model.specs.declared.block.Block.{Block}
use Rattle.set_model.specs.Key.{contains}
use Rattle.set_tables.specs.Tables.{split}
use Rattle.set_tables.specs.Search.{key_tests}

-- the row of a field in which each rule has its element's mark if its block passes the test
abbrev pub hits : (Element → List Block) → (Element → Bool) → (Block → Bool) → List Element → List Bool
hits here mark test es = flat_map (λ e. map (λ b. mark e && test b) (here e)) es

-- An element has a block that passes in each field before f.
abbrev pub passes_fields : List Kind → (ℕ → Block → Bool) → ℕ → Element → Bool
passes_fields kinds tests zero e = true
passes_fields kinds tests (suc f) e = passes_fields kinds tests f e && list_any (tests f) (split kinds f e)

-- the rules of field f that pass, of elements that passed all earlier fields
abbrev pub row_of : List Kind → List Element → (ℕ → Block → Bool) → ℕ → List Bool
row_of kinds es tests f = hits (split kinds f) (passes_fields kinds tests f) (tests f) es

-- an interval, if there is one, holds a value
abbrev pub part_contains : ℕ → Option Interval → Bool
part_contains value None = false
part_contains value (Some part) = contains part value

-- An element holds a key in field f.
abbrev pub holds_at : Element → List ℕ → ℕ → Bool
holds_at e key f = part_contains (slice_index key f) (slice_get e.parts f)

-- An element holds a key in all fields before f.
abbrev pub held : List ℕ → ℕ → Element → Bool
held key zero e = true
held key (suc f) e = held key f e && holds_at e key f

-- the rules of field f whose block holds the key's value, of elements that hold the key in all
-- earlier fields
abbrev pub key_row : List Kind → List Element → List ℕ → ℕ → List Bool
key_row kinds es key f = hits (split kinds f) (held key f) (key_tests key f) es
