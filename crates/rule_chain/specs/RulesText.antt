-- The rules files that texts mean.
use Rattle.std.specs.Prelude.{ℕ, List, Bool}
use Rattle.set_model.specs.declared.script.SetDecl.{SetDecl}
use Rattle.token_forms.specs.declared.token.Reason.{Reason}
use Rattle.token_forms.specs.TextTokens.{plain_tokens}
use Rattle.token_forms.specs.Faults.{IsFault}
use Rattle.rule_chain.specs.declared.chains.Chain.{Chain}
use Rattle.rule_chain.specs.Rules.{rules_file}

-- The text is a rules file for the sets of this schema: these are its chains in order, and whether its policy accepts.
unfoldable pub IsRulesText : List SetDecl → List ℕ → List Chain × Bool → Type 0
IsRulesText schema text rules = (rules_file schema).whole (plain_tokens text) rules

-- The text is no rules file for the sets of this schema: its bad token is in this line and has this
-- reason.
abbrev pub IsBadRules : List SetDecl → List ℕ → ℕ → Reason → Type 0
IsBadRules schema text line reason = IsFault (rules_file schema) (plain_tokens text) line reason
