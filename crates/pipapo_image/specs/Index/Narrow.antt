-- The rules of the last field alone.
use Rattle.std.specs.Prelude.{ℕ, ◌-◌, Bool, true, List, length}
use Rattle.set_model.specs.declared.kind.Kind.{Kind}
use Rattle.set_model.specs.declared.element.Element.{Element}
use Rattle.set_model.specs.declared.block.Block.{Block}
use Rattle.set_tables.specs.Core.{hits}
use Rattle.set_tables.specs.Tables.{split}

-- the rules of the last field whose block passes the field's test, whatever the other fields have
abbrev pub last_row : List Kind → List Element → (ℕ → Block → Bool) → List Bool
last_row kinds es tests = hits (split kinds (length kinds - 1)) (λ e. true) (tests (length kinds - 1)) es
