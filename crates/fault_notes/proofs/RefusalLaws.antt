-- The lines of a note on refused changes, one after another.
use Rattle.std.proofs.Common.{◌≡◌, sym, ◌∙◌, ap, subst, ℕ, ◌+◌, ◌<◌, true, List, [], ◌∷◌, ◌++◌, length, take, get_or, add-one, append_assoc}
use Rattle.std.specs.Prelude.{codes}
use Rattle.std.proofs.Math.Seq.{take-suc}
use Rattle.fault_notes.specs.declared.refused.RefusedChange.{RefusedChange}
use Rattle.token_notes.specs.Shown.{shown, name_text}
use Rattle.fault_notes.specs.Refusals.{AreRefusalLines, more, IsRefusalLine, failure_text, line_feed}

-- One line more.
pub one-more : (name : List ℕ) (changes : List RefusedChange) (i : ℕ) (d : RefusedChange) (lines line : List ℕ) → i < length changes → AreRefusalLines name (take i changes) lines → IsRefusalLine name (get_or changes i d).line line → AreRefusalLines name (take (i + 1) changes) (lines ++ line)
one-more name changes i d lines line within so_far is =
    let front : take (i + 1) changes ≡ take i changes ++ get_or changes i d ∷ [] = rw add-one (take-suc changes i d within) in
    subst (λ (cs : List RefusedChange). AreRefusalLines name cs (lines ++ line)) (sym front) (more (take i changes) (get_or changes i d) lines line so_far is)

-- The line on a transaction that failed.
pub failure-added : (name old a b text : List ℕ) → a ≡ old ++ name_text name → b ≡ a ++ shown (codes "the last transaction failed, so this shows the generation before it") → text ≡ b ++ line_feed → text ≡ old ++ failure_text name true
failure-added name old a b text one two three =
    let words = shown (codes "the last transaction failed, so this shows the generation before it") in
    three ∙ ap (λ z. z ++ line_feed) (two ∙ ap (λ z. z ++ words) one) ∙ append_assoc (old ++ name_text name) words line_feed ∙ append_assoc old (name_text name) (words ++ line_feed)
