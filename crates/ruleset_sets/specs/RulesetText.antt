-- The scripts that rulesets mean.
use Rattle.std.specs.Prelude.{ℕ, List, Bool, true, false, Option, Some, None}
use Rattle.set_model.specs.declared.script.Script.{Script}
use Rattle.token_forms.specs.declared.bad_token.BadToken.{BadToken}
use Rattle.token_forms.specs.declared.token.Reason.{Reason}
use Rattle.token_forms.specs.TextTokens.{text_tokens}
use Rattle.token_forms.specs.Faults.{IsFault}
use Rattle.token_forms.specs.BadTokens.{IsBadTokenOf}
use Rattle.set_script.specs.Script.{script as script_form}
use Rattle.set_script.specs.ScriptText.{IsScriptText}
use Rattle.ruleset_sets.specs.declared.role_token.RoleToken.{RoleToken}
use Rattle.ruleset_sets.specs.declared.sieve.SkipReason.{SkipReason}
use Rattle.ruleset_sets.specs.declared.sieve.SkipReason.TheVariants as reasons
use Rattle.ruleset_sets.specs.Kept.{IsKept, all_taken}

-- This holds of what is kept of a ruleset.
pub record HoldsOfKept (whole : List ℕ) (Holds : List ℕ → Type 0) : Type 0 where
  pub kept : List ℕ
  pub is_kept : IsKept whole (all_taken whole) kept
  pub holds : Holds kept

-- What is kept of the text is a script, and this is what it means. A text means one script at most.
abbrev pub IsRulesetText : List ℕ → Script → Type 0
IsRulesetText whole s = HoldsOfKept whole (λ kept. IsScriptText kept s)

-- What is kept of the text is no script. Its bad token is in this line and has this reason.
abbrev pub IsBadRuleset : List ℕ → ℕ → Reason → Type 0
IsBadRuleset whole line reason = HoldsOfKept whole (λ kept. IsFault script_form (text_tokens kept) line reason)

-- the bad token of what is kept of a text; none exactly if that is a script
abbrev pub IsBadTokenOfRuleset : List ℕ → Option BadToken → Type 0
IsBadTokenOfRuleset whole found = HoldsOfKept whole (λ kept. IsBadTokenOf script_form kept found)

-- a set, or a statement on one, is left out for this reason
abbrev pub leaves_out : SkipReason → Bool
leaves_out reasons.NoSet = false
leaves_out reasons.DroppedPart = false
leaves_out _ = true

-- the token of an item that is the reason to leave it out, if one is
abbrev pub reason_token : SkipReason → Option RoleToken
reason_token (reasons.UnknownType p) = Some p
reason_token (reasons.UnknownExpression p) = Some p
reason_token (reasons.AutoMerge p) = Some p
reason_token (reasons.CatchAll p) = Some p
reason_token (reasons.Stateful p) = Some p
reason_token _ = None
