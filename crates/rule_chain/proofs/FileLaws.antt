-- What reading a whole rules file says of its text.
use Rattle.std.proofs.Common.{◌≡◌, sym, subst, ℕ, List, Bool, None, Result, Ok, Err, IfOk}
use Rattle.set_model.specs.declared.script.SetDecl.{SetDecl}
use Rattle.token_forms.specs.declared.error.ReadError.{ReadError}
use Rattle.token_forms.specs.declared.error.ReadError.TheVariants as errors
use Rattle.token_forms.specs.declared.token.Reason.{Reason}
use Rattle.token_forms.specs.BadTokens.{IsPlainBadTokenOf}
use Rattle.token_forms.proofs.BadTokenLaws.{IsRefusedAt}
use Rattle.token_forms.specs.Token.{Lexeme}
use Rattle.token_forms.specs.TextTokens.{plain_tokens}
use Rattle.token_forms.proofs.AnswerLaws.{TextGives, text_gives, text_single}
use Rattle.token_forms.proofs.EndsLaw.{plain_ends}
use Rattle.token_forms.proofs.KindLaws.{end_no_line}
use Rattle.token_forms.proofs.WholeLaws.{Ends, text_answer}
use Rattle.rule_chain.specs.declared.chains.Chain.{Chain}
use Rattle.rule_chain.specs.Chains.{AreChains}
use Rattle.token_forms.specs.Gives.{Gives}
use Rattle.rule_chain.specs.Rules as form
use Rattle.rule_chain.specs.RulesReading as reading
use Rattle.rule_chain.specs.RulesText.{IsRulesText}
use Rattle.rule_chain.proofs.RulesLaws.{body_reads}
use Rattle.rule_chain.proofs.SoundLaws.{chains_sound}

schema_gives : {X : Type 0} (schema : List SetDecl) (text : List ℕ) (ts : List Lexeme) (view : X → List Chain × Bool) (r : Result X ReadError) (new : List Lexeme) → ts ≡ plain_tokens text → Gives view r new (reading.rules_file schema ts)
    → TextGives (form.body schema) (plain_tokens text) view r new
unfolding reading.rules_file
schema_gives schema text ts view r new e g =
    subst (λ z. TextGives (form.body schema) z view r new) e
    (text_gives (form.body schema) ts view r new (reading.body schema ts) (text_answer (body_reads schema) (λ _. end_no_line) ts (subst Ends (sym e) (plain_ends text))) g)

pub rules_gives : {X : Type 0} (schema given : List SetDecl) (text : List ℕ) (ts : List Lexeme) (view : X → List Chain × Bool) (r : Result X ReadError) (new : List Lexeme) → given ≡ schema → ts ≡ plain_tokens text → Gives view r new (reading.rules_file given ts)
    → TextGives (form.body schema) (plain_tokens text) view r new
rules_gives schema given text ts view r new same e g = schema_gives schema text ts view r new e (subst (λ (z : List SetDecl). Gives view r new (reading.rules_file z ts)) same g)

-- a text that is read has no bad token
pub rules_unrefused : {X : Type 0} (schema given : List SetDecl) (text : List ℕ) (ts : List Lexeme) (view : X → List Chain × Bool) (r : Result X ReadError) (new : List Lexeme) → given ≡ schema → ts ≡ plain_tokens text → Gives view r new (reading.rules_file given ts)
    → (x : X) → r ≡ Ok x → IsPlainBadTokenOf (form.rules_file schema) text None
rules_unrefused schema given text ts view r new same e g x k = (view x, subst (λ z. IfOk z (λ y. (form.rules_file schema).whole (plain_tokens text) (view y))) k (rules_gives schema given text ts view r new same e g).found)

pub rules_refused : {X : Type 0} (schema given : List SetDecl) (text : List ℕ) (ts : List Lexeme) (view : X → List Chain × Bool) (r : Result X ReadError) (new : List Lexeme) → given ≡ schema → ts ≡ plain_tokens text → Gives view r new (reading.rules_file given ts)
    → (line : ℕ) (reason : Reason) → r ≡ Err (errors.Bad line reason) → IsRefusedAt (form.rules_file schema) (plain_tokens text) line reason new
rules_refused schema given text ts view r new same e g line reason k = (rules_gives schema given text ts view r new same e g).bad line reason k

pub rules_single : (schema : List SetDecl) (text : List ℕ) (rules other : List Chain × Bool) → IsRulesText schema text rules → IsRulesText schema text other → rules ≡ other
unfolding IsRulesText
rules_single schema text rules other w v = text_single (body_reads schema) (λ _. end_no_line) (plain_tokens text) (plain_ends text) rules other w v

pub rules_sound : {X : Type 0} (schema : List SetDecl) (text : List ℕ) (view : X → List Chain × Bool) (r : Result X ReadError) → IfOk r (λ x. IsRulesText schema text (view x)) → IfOk r (λ x. AreChains schema (view x).0)
rules_sound schema text view (Ok x) w = chains_sound schema text (view x) w
rules_sound schema text view (Err e) w = tt
