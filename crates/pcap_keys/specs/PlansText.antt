-- The plans that texts mean.
use Rattle.std.specs.Prelude.{ℕ, List}
use Rattle.set_model.specs.declared.script.SetDecl.{SetDecl}
use Rattle.token_forms.specs.declared.token.Reason.{Reason}
use Rattle.token_forms.specs.TextTokens.{plain_tokens}
use Rattle.token_forms.specs.Faults.{IsFault}
use Rattle.pcap_keys.specs.declared.selector.PlanLine.{PlanLine}
use Rattle.pcap_keys.specs.Plans.{plan}

-- The text is a plan for the sets of this schema, and these are its lines. A text means at most one
-- plan.
unfoldable pub IsPlanText : List SetDecl → List ℕ → List PlanLine → Type 0
IsPlanText schema text lines = (plan schema).whole (plain_tokens text) lines

-- The text is no plan for the sets of this schema: its bad token is in this line and has this reason.
abbrev pub IsBadPlan : List SetDecl → List ℕ → ℕ → Reason → Type 0
IsBadPlan schema text line reason = IsFault (plan schema) (plain_tokens text) line reason
