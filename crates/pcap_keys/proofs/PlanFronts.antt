-- The tokens before any place of a front of a plan are a front, form by form.
use Rattle.std.specs.Prelude.{ℕ, List, [], ◌∷◌, length, nat_lt, Bool, true, false, Option, Some, None, slice_get}
use Rattle.set_model.specs.declared.kind.Kind.{Kind}
use Rattle.set_model.specs.declared.script.Family.{Family}
use Rattle.set_model.specs.declared.script.SetDecl.{SetDecl}
use Rattle.token_forms.specs.declared.token.Reason.TheVariants as reasons
use Rattle.token_forms.specs.Words.{breaks_off}
use Rattle.token_forms.proofs.FrontLaws.{Closed, one_closed, done_closed, nowhere_closed, bind_closed, many_closed, line_closed}
use Rattle.set_script.specs.Script as script
use Rattle.pcap_keys.specs.declared.selector.Selector.{Selector}
use Rattle.pcap_keys.specs.declared.selector.PlanLine.{PlanLine}
use Rattle.pcap_keys.specs.Plans as form

more_selectors_closed : (kinds : List Kind) (ss : List Selector) → Closed (form.more_selectors kinds ss)
more_selectors_closed [] ss = done_closed _
more_selectors_closed (kind ∷ kinds) ss = bind_closed (one_closed []) (λ _. bind_closed (one_closed (reasons.TypeWord ∷ [])) (λ s. more_selectors_closed kinds _))

all_selectors_closed : (kinds : List Kind) → Closed (form.all_selectors kinds)
all_selectors_closed [] = nowhere_closed
all_selectors_closed (kind ∷ kinds) = bind_closed (one_closed (reasons.TypeWord ∷ [])) (λ s. more_selectors_closed kinds _)

line_of_closed : (plan : List PlanLine) (i : ℕ) (s : Option SetDecl) → Closed (form.line_of plan i s)
line_of_closed plan i None = nowhere_closed
line_of_closed plan i (Some s) = bind_closed (all_selectors_closed s.kinds) (λ _. done_closed _)

table_behind_closed : (w : List ℕ) (o : Option Family) → Closed (script.table_behind w o)
table_behind_closed w None = done_closed _
table_behind_closed w (Some family) = bind_closed (one_closed []) (λ _. done_closed _)

some_lines_closed : (plan : List PlanLine) → Closed (form.some_lines plan)
some_lines_closed [] = nowhere_closed
some_lines_closed (l ∷ ls) = done_closed _

module _ (schema : List SetDecl) where
  line_if_closed : (room : Bool) (plan : List PlanLine) → Closed (form.line_if room schema plan)
  line_if_closed true plan =
      bind_closed (bind_closed (one_closed []) (λ w. table_behind_closed w _)) (λ p. bind_closed (one_closed (reasons.Set ∷ [])) (λ i. line_of_closed plan i (slice_get schema i)))
  line_if_closed false plan = nowhere_closed

  pub plan_closed : Closed (form.plan schema)
  plan_closed =
      bind_closed (bind_closed (many_closed (λ r. line_closed breaks_off (λ plan. line_if_closed (nat_lt (length plan) form.most_lines) plan) r.0 r.1) _) (λ s. some_lines_closed s.0)) (λ _. bind_closed (one_closed []) (λ _. done_closed _))
