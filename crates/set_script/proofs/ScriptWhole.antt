-- What reading a whole script says of its text.
use Rattle.std.proofs.Common.{◌≡◌, sym, subst, List, ℕ, None, Result, Ok, Err}
use Rattle.std.specs.Prelude.{IfOk}
use Rattle.set_model.specs.declared.script.Script.{Script}
use Rattle.token_forms.specs.Token.{Lexeme}
use Rattle.token_forms.specs.declared.error.ReadError.{ReadError}
use Rattle.token_forms.specs.declared.error.ReadError.TheVariants as errors
use Rattle.token_forms.specs.declared.token.Reason.{Reason}
use Rattle.token_forms.specs.Gives.{Gives}
use Rattle.token_forms.specs.TextTokens.{text_tokens}
use Rattle.token_forms.specs.BadTokens.{IsBadTokenOf}
use Rattle.token_forms.proofs.BadTokenLaws.{IsRefusedAt}
use Rattle.token_forms.proofs.WholeLaws.{Ends, text_answer}
use Rattle.token_forms.proofs.EndsLaw.{text_ends}
use Rattle.token_forms.proofs.AnswerLaws.{TextGives, text_gives, text_single}
use Rattle.token_forms.proofs.KindLaws.{end_no_line}
use Rattle.set_script.specs.Script as form
use Rattle.set_script.specs.ScriptText.{IsScriptText}
use Rattle.set_script.specs.ScriptReading as reading
use Rattle.set_model.specs.Runnable.{IsRunnable}
use Rattle.set_script.proofs.ScriptLaws.{body_reads}
use Rattle.set_script.proofs.RunLaws.{script_is_read}

pub script_gives : (text : List ℕ) (ts : List Lexeme) (r : Result Script ReadError) (new : List Lexeme) → ts ≡ text_tokens text → Gives (λ x. x) r new (reading.script ts) → TextGives form.body (text_tokens text) (λ x. x) r new
unfolding reading.script
script_gives text ts r new e g =
    subst (λ z. TextGives form.body z (λ x. x) r new) e
    (text_gives form.body ts (λ x. x) r new (reading.body ts) (text_answer body_reads (λ _. end_no_line) ts (subst Ends (sym e) (text_ends text))) g)

pub script_single : (text : List ℕ) (s t : Script) → IsScriptText text s → IsScriptText text t → s ≡ t
unfolding IsScriptText
script_single text s t w v = text_single body_reads (λ _. end_no_line) (text_tokens text) (text_ends text) s t w v

pub script_runs : (text : List ℕ) (r : Result Script ReadError) → IfOk r (IsScriptText text) → IfOk r IsRunnable
script_runs text (Ok s) w = script_is_read text s w
script_runs text (Err e) w = tt

-- a text that is read has no bad token
pub script_unrefused : (text : List ℕ) (ts : List Lexeme) (r : Result Script ReadError) (new : List Lexeme) → ts ≡ text_tokens text → Gives (λ x. x) r new (reading.script ts) → (s : Script) → r ≡ Ok s
    → IsBadTokenOf form.script text None
script_unrefused text ts r new e g s k = (s, subst (λ z. IfOk z (form.script.whole (text_tokens text))) k (script_gives text ts r new e g).found)

pub script_refused : (text : List ℕ) (ts : List Lexeme) (r : Result Script ReadError) (new : List Lexeme) → ts ≡ text_tokens text → Gives (λ x. x) r new (reading.script ts) → (line : ℕ) (reason : Reason)
    → r ≡ Err (errors.Bad line reason) → IsRefusedAt form.script (text_tokens text) line reason new
script_refused text ts r new e g line reason k = (script_gives text ts r new e g).bad line reason k
