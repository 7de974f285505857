-- What is kept of a ruleset is one text, so a ruleset means one script at most.
use Rattle.std.proofs.Common.{arith, refl, sym, ap, ◌≡◌, ◌∙◌, subst, ℕ, zero, suc, ◌+◌, ◌<◌, List, [], ◌∷◌, length, Option, Err}
use Rattle.std.specs.Prelude.{slice_index}
use Rattle.std.proofs.lemmas.Grind.{same_number_lists}
use Rattle.set_model.specs.declared.script.Script.{Script}
use Rattle.token_forms.specs.declared.bad_token.BadToken.{BadToken}
use Rattle.token_forms.specs.declared.token.Reason.{Reason}
use Rattle.token_forms.specs.declared.error.ReadError.{ReadError}
use Rattle.token_forms.specs.declared.error.ReadError.TheVariants as errors
use Rattle.token_forms.specs.Gives.{IsReadAs}
use Rattle.token_forms.specs.TextTokens.{text_tokens}
use Rattle.token_forms.specs.Faults.{IsFault}
use Rattle.token_forms.specs.BadTokens.{IsBadTokenOf}
use Rattle.set_script.specs.Script.{script as script_form}
use Rattle.set_script.specs.ScriptText.{IsScriptText}
use Rattle.ruleset_sets.specs.declared.role_token.RoleToken.{RoleToken}
use Rattle.ruleset_sets.specs.Kept.{IsKept, all_taken, kept_byte, kept_from, kept_text}
use Rattle.ruleset_sets.specs.RulesetText.{IsRulesetText, IsBadRuleset, IsBadTokenOfRuleset}

one_kept : (text : List ℕ) (taken : List RoleToken) (xs ys : List ℕ) → IsKept text taken xs → IsKept text taken ys → xs ≡ ys
one_kept text taken xs ys p q =
    same_number_lists xs ys (p.same_length ∙ sym q.same_length) (λ k h. let within : k < length text = subst (λ n. k < n) p.same_length h in p.each k within ∙ sym (q.each k within))

length-kept : (taken : List RoleToken) (k : ℕ) (bytes : List ℕ) → length (kept_from taken k bytes) ≡ length bytes
length-kept taken k [] = refl
length-kept taken k (b ∷ bytes) = let e = length-kept taken (k + 1) bytes in omega (arith, e)

each-kept : (taken : List RoleToken) (k : ℕ) (bytes : List ℕ) (i : ℕ) → i < length bytes → slice_index (kept_from taken k bytes) i ≡ kept_byte taken (k + i) (slice_index bytes i)
each-kept taken k [] i h = absurd (omega (arith, h))
each-kept taken k (b ∷ bytes) zero h = let e : k ≡ k + 0 = omega arith in ap (λ n. kept_byte taken n b) e
each-kept taken k (b ∷ bytes) (suc i) h =
    let e : (k + 1) + i ≡ k + suc i = omega arith in each-kept taken (k + 1) bytes i (omega (arith, h)) ∙ ap (λ n. kept_byte taken n (slice_index bytes i)) e

-- What is kept of a ruleset is the text that the definition makes of it.
pub kept_is : (whole kept : List ℕ) → IsKept whole (all_taken whole) kept → kept ≡ kept_text whole
kept_is whole kept k =
    one_kept whole (all_taken whole) kept (kept_text whole) k (record { same_length = length-kept (all_taken whole) 0 whole; each = λ i h. let e : 0 + i ≡ i = omega arith in each-kept (all_taken whole) 0 whole i h ∙ ap (λ n. kept_byte (all_taken whole) n (slice_index whole i)) e })

-- It is as long as the ruleset.
pub kept_length : (whole : List ℕ) → length (kept_text whole) ≡ length whole
kept_length whole = length-kept (all_taken whole) 0 whole

-- a script of the ruleset is the script of what was kept of it
pub kept_script : (whole kept : List ℕ) (s : Script) → IsKept whole (all_taken whole) kept → IsRulesetText whole s → IsScriptText kept s
kept_script whole kept s k r = subst (λ t. IsScriptText t s) (one_kept whole (all_taken whole) r.kept kept r.is_kept k) r.holds

-- What holds of the text that was kept, holds of what is kept of the ruleset.
pub meant : (whole kept : List ℕ) (s : Script) → IsKept whole (all_taken whole) kept → IsScriptText kept s → IsRulesetText whole s
meant whole kept s k h = record { kept = kept; is_kept = k; holds = h }

pub refused : (whole kept : List ℕ) (line : ℕ) (reason : Reason) → IsKept whole (all_taken whole) kept → IsFault script_form (text_tokens kept) line reason → IsBadRuleset whole line reason
refused whole kept line reason k h = record { kept = kept; is_kept = k; holds = h }

pub placed : (whole kept : List ℕ) (found : Option BadToken) → IsKept whole (all_taken whole) kept → IsBadTokenOf script_form kept found → IsBadTokenOfRuleset whole found
placed whole kept found k h = record { kept = kept; is_kept = k; holds = h }

-- A text that isn't read as a script is what is kept of no ruleset that means one.
pub unread : (whole kept slice : List ℕ) (error : ReadError) (line : ℕ) (reason : Reason) → slice ≡ kept → error ≡ errors.Bad line reason → IsKept whole (all_taken whole) kept
    → ((s : Script) → IsScriptText slice s → IsReadAs {A = Script} {X = Script} (λ x. x) (Err error) s) → (s : Script) → IsRulesetText whole s → ⊥
unread whole kept slice error line reason e f k only s r =
    let P : ReadError → Type 0 = λ x. IsReadAs {A = Script} {X = Script} (λ y. y) (Err x) s in
    subst P f (only s (subst (λ t. IsScriptText t s) (sym e) (kept_script whole kept s k r)))
