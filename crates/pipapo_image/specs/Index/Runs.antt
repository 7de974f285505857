-- The places of an element's rules in each field.
use Rattle.std.specs.Prelude.{◌≡◌, ℕ, ◌+◌, List, length, take, get_or}
use Rattle.set_model.specs.declared.kind.Kind.{Kind}
use Rattle.set_model.specs.declared.element.Element.{Element}
use Rattle.set_model.specs.SetState.{field_rules}
use Rattle.set_tables.specs.declared.Span.{Span}
use Rattle.pipapo_image.specs.Index.Built.{Built}

-- The rules of the element at place i in field f: they come after the rules of the elements before
-- it.
pub record IsElementRun (kinds : List Kind) (es : List Element) (i f : ℕ) (run : Span) : Type 0 where
  pub begins : run.first ≡ length (field_rules kinds f (take i es))
  pub ends : run.first + run.count ≡ length (field_rules kinds f (take (i + 1) es))

-- its rules in each of the first n fields
abbrev pub AreRuns : List Kind → List Element → ℕ → List Span → ℕ → Type 0
AreRuns kinds es i runs n = Built (IsElementRun kinds es i) runs n

-- the run of field f
abbrev pub run_at : List Span → ℕ → Span
run_at runs f = get_or runs f (record { first = 0; count = 0 })
