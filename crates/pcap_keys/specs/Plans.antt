-- The plan: the table of its forms.
use Rattle.std.specs.Prelude.{ℕ, List, [], ◌∷◌, ◌++◌, length, Bool, true, false, nat_lt, Option, Some, None, codes, slice_get}
use Rattle.set_model.specs.declared.kind.Kind.{Kind}
use Rattle.set_model.specs.declared.script.SetDecl.{SetDecl}
use Rattle.token_forms.specs.declared.token.Reason.TheVariants as reasons
use Rattle.token_forms.specs.Form.{Form, done, nowhere, many, ◌>>=◌, ◌>>◌}
use Rattle.token_forms.specs.Words.{word, word_by, the_end, breaks_off, line}
use Rattle.set_script.specs.Script.{table_place, used_set}
use Rattle.pcap_keys.specs.declared.selector.Selector.{Selector}
use Rattle.pcap_keys.specs.declared.selector.PlanLine.{PlanLine}
use Rattle.pcap_keys.specs.Selectors.{selector_of}

abbrev pub most_lines : ℕ
most_lines = 4

-- a selector of a kind
abbrev pub selector : Kind → Form Selector
selector kind = word_by (reasons.TypeWord ∷ []) (λ t. selector_of kind t.bytes)

-- the word `.` and the next selector, for each of these kinds
abbrev pub more_selectors : List Kind → List Selector → Form (List Selector)
more_selectors [] selectors = done selectors
more_selectors (kind ∷ kinds) selectors = do
  word (codes ".")
  s ← selector kind
  more_selectors kinds (selectors ++ s ∷ [])

-- one selector for each kind
abbrev pub all_selectors : List Kind → Form (List Selector)
all_selectors [] = nowhere
all_selectors (kind ∷ kinds) = do
  s ← selector kind
  more_selectors kinds (s ∷ [])

-- one more line
abbrev pub with_line : List PlanLine → ℕ → List Selector → List PlanLine
with_line plan set selectors = plan ++ record { set = set; selectors = selectors } ∷ []

abbrev pub line_of : List PlanLine → ℕ → Option SetDecl → Form (List PlanLine)
line_of plan i None = nowhere
line_of plan i (Some s) = do
  selectors ← all_selectors s.kinds
  done (with_line plan i selectors)

-- a declared set, and a selector for each of its fields
abbrev pub set_line : List SetDecl → List PlanLine → Form (List PlanLine)
set_line schema plan = do
  p ← table_place
  i ← used_set schema p
  line_of plan i (slice_get schema i)

abbrev pub line_if : Bool → List SetDecl → List PlanLine → Form (List PlanLine)
line_if true schema plan = set_line schema plan
line_if false schema plan = nowhere

-- at most four lines
abbrev pub plan_line : List SetDecl → List PlanLine → Form (List PlanLine)
plan_line schema plan = line_if (nat_lt (length plan) most_lines) schema plan

-- lines with breaks between them, and any number of breaks before the first and after the last
abbrev pub plan_lines : List SetDecl → Form (List PlanLine × Bool)
plan_lines schema = many (line breaks_off (plan_line schema)) ([], true)

-- at least one line
abbrev pub some_lines : List PlanLine → Form (List PlanLine)
some_lines [] = nowhere
some_lines (l ∷ ls) = done (l ∷ ls)

abbrev pub body : List SetDecl → Form (List PlanLine)
body schema = do
  s ← plan_lines schema
  some_lines s.0

abbrev pub plan : List SetDecl → Form (List PlanLine)
plan schema = do
  p ← body schema
  the_end
  done p
