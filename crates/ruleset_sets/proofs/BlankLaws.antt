-- Bytes of tokens become blanks.
use Rattle.std.proofs.Common.{◌≡◌, refl, sym, ◌∙◌, ap, ℕ, List, ◌++◌, Bool, true, false, ◌||◌}
use Rattle.std.specs.List.{list_any}
use Rattle.std.proofs.lemmas.List.Folds.{list_any-append}
use Rattle.ruleset_sets.specs.declared.role_token.RoleToken.{RoleToken}
use Rattle.ruleset_sets.specs.Kept.{blank_if, kept_byte, is_within}

blank_or : (w r : Bool) (b : ℕ) → blank_if r (blank_if w b) ≡ blank_if (w || r) b
blank_or true true b = refl
blank_or true false b = refl
blank_or false true b = refl
blank_or false false b = refl

-- the tokens of one item, and then those of others
pub next-tokens : (ps qs : List RoleToken) (k b old new : ℕ) → new ≡ kept_byte ps k old → kept_byte (ps ++ qs) k old ≡ b → kept_byte qs k new ≡ b
next-tokens ps qs k b old new e h =
    rw e (blank_or (list_any (is_within k) ps) (list_any (is_within k) qs) old ∙ ap (λ t. blank_if t old) (sym (list_any-append (is_within k) ps qs)) ∙ h)
