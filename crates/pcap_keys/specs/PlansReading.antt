-- Reading a plan from left to right, along the table of its forms.
use Rattle.std.specs.Prelude.{ℕ, List, [], ◌∷◌, ◌++◌, length, Bool, true, false, nat_lt, Option, Some, None, codes, slice_get}
use Rattle.set_model.specs.declared.kind.Kind.{Kind}
use Rattle.set_model.specs.declared.script.SetDecl.{SetDecl}
use Rattle.token_forms.specs.declared.token.Reason.TheVariants as reasons
use Rattle.token_forms.specs.Reading.{done_read as done, nowhere_read as nowhere, ◌>>=◌, ◌>>◌}
use Rattle.token_forms.specs.Words.{any_word, breaks_off}
use Rattle.token_forms.specs.WordReading.{Reading, word, word_by, the_end, line, line_starts, many}
use Rattle.set_script.specs.ScriptReading.{table_place, used_set}
use Rattle.pcap_keys.specs.declared.selector.Selector.{Selector}
use Rattle.pcap_keys.specs.declared.selector.PlanLine.{PlanLine}
use Rattle.pcap_keys.specs.Selectors.{selector_of}
use Rattle.pcap_keys.specs.Plans.{most_lines, with_line}

abbrev pub selector : Kind → Reading Selector
selector kind = word_by (reasons.TypeWord ∷ []) (λ t. selector_of kind t.bytes)

unfoldable pub more_selectors : List Kind → List Selector → Reading (List Selector)
more_selectors [] selectors = done selectors
more_selectors (kind ∷ kinds) selectors = do
  word (codes ".")
  s ← selector kind
  more_selectors kinds (selectors ++ s ∷ [])

abbrev pub some_selectors : Kind → List Kind → Reading (List Selector)
some_selectors kind kinds = do
  s ← selector kind
  more_selectors kinds (s ∷ [])

unfoldable pub all_selectors : List Kind → Reading (List Selector)
all_selectors [] = nowhere
all_selectors (kind ∷ kinds) = some_selectors kind kinds

unfoldable pub line_of : List PlanLine → ℕ → Option SetDecl → Reading (List PlanLine)
line_of plan i None = nowhere
line_of plan i (Some s) = do
  selectors ← all_selectors s.kinds
  done (with_line plan i selectors)

abbrev pub line_at : List SetDecl → List PlanLine → ℕ → Reading (List PlanLine)
line_at schema plan i = line_of plan i (slice_get schema i)

unfoldable pub set_line : List SetDecl → List PlanLine → Reading (List PlanLine)
set_line schema plan = do
  p ← table_place
  i ← used_set schema p
  line_at schema plan i

unfoldable pub line_if : Bool → List SetDecl → List PlanLine → Reading (List PlanLine)
line_if true schema plan = set_line schema plan
line_if false schema plan = nowhere

abbrev pub plan_line : List SetDecl → List PlanLine → Reading (List PlanLine)
plan_line schema plan = line_if (nat_lt (length plan) most_lines) schema plan

abbrev pub line_or_break : List SetDecl → List PlanLine × Bool → Reading (List PlanLine × Bool)
line_or_break schema = line breaks_off (plan_line schema)

abbrev pub plan_lines : List SetDecl → Reading (List PlanLine × Bool)
plan_lines schema = many (line_starts breaks_off any_word) (line_or_break schema) ([], true)

unfoldable pub some_lines : List PlanLine → Reading (List PlanLine)
some_lines [] = nowhere
some_lines (l ∷ ls) = done (l ∷ ls)

unfoldable pub body : List SetDecl → Reading (List PlanLine)
body schema = do
  s ← plan_lines schema
  some_lines s.0

unfoldable pub plan : List SetDecl → Reading (List PlanLine)
plan schema = do
  p ← body schema
  the_end
  done p
