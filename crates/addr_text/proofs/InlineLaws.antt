-- The content of a text of fixed room after a value was displayed into it.
use Rattle.std.proofs.Common.{◌≡◌, ℕ, List, [], ◌∷◌, ◌++◌, Option, Some, None, IfSome, OnOk, Result, Ok, Err, sym, ap, ◌∙◌, append_assoc, append-nil}
use Rattle.std.specs.List.{concat, FoldsTo}
use Rattle.std.specs.Fmt.{WritesText}
use Rattle.std.specs.Fmt.InlineText.{inline_text, IsIntact, AppendsIfIntact}
use Rattle.std.specs.declared.fmt.InlineText.{InlineText}

written : (n : ℕ) (s t : InlineText n) (parts : List (List ℕ)) → FoldsTo AppendsIfIntact s parts t → IsIntact s → inline_text t ≡ inline_text s ++ concat parts
written n s t [] h intact = ap inline_text (sym h) ∙ sym (append-nil (inline_text s))
written n s t (part ∷ parts) (middle, took, later) intact =
    let (still, text) = took intact in
    written n middle t parts later still ∙ ap (λ x. x ++ concat parts) text ∙ append_assoc (inline_text s) part (concat parts)

-- bytes that end with the text's content end with what was displayed
pub displayed : {E : Type 0} (n : ℕ) (s t : InlineText n) (o : Option (List ℕ)) (old new bytes : List ℕ) (r : Result (Unit {0}) E) → WritesText AppendsIfIntact s o t → IsIntact s → inline_text s ≡ [] → bytes ≡ inline_text t → OnOk r (new ≡ old ++ bytes) → OnOk r (IfSome o (λ text. new ≡ old ++ text))
displayed n s t o old new bytes (Err e) wrote intact empty is grown = tt
displayed n s t None old new bytes (Ok done) wrote intact empty is grown = tt
displayed n s t (Some text) old new bytes (Ok done) wrote intact empty is grown =
    grown ∙ ap (λ x. old ++ x) (is ∙ written n s t wrote.parts wrote.calls intact ∙ ap (λ x. x ++ concat wrote.parts) empty ∙ wrote.whole)
