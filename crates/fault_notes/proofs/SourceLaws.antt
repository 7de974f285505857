-- What a note says of a bad token, piece by piece.
use Rattle.std.proofs.Common.{◌≡◌, ◌∙◌, sym, ap, subst, List, ℕ, Bool, true, false, [], ◌∷◌, ◌++◌, append_assoc, Result}
use Rattle.std.specs.Prelude.{IfOk}
use Rattle.token_forms.specs.declared.bad_token.BadToken.{BadToken}
use Rattle.token_notes.specs.Shown.{shown}
use Rattle.token_notes.specs.Source.{IsSaid, other_kind, shows_line, IsSaidAt, both_lines, source_text, before_token, of_token, after_token}

-- What is wrong, both lines, and then the rest.
pub said-token : (lines a b c d e f h k : List ℕ) → b ≡ a ++ 10 ∷ [] → c ≡ b ++ lines → d ≡ c ++ h → e ≡ d ++ k → f ≡ e ++ 10 ∷ [] → IsSaid lines f false
said-token lines a b c d e f h k one two three four five =
    let front = a ++ 10 ∷ [] in
    let to_lines : c ≡ front ++ lines = two ∙ ap (λ z. z ++ lines) one in
    let to_help : d ≡ front ++ (lines ++ h) = three ∙ ap (λ z. z ++ h) to_lines ∙ append_assoc front lines h in
    let to_words : e ≡ front ++ (lines ++ (h ++ k)) = four ∙ ap (λ z. z ++ k) to_help ∙ append_assoc front (lines ++ h) k ∙ ap (λ z. front ++ z) (append_assoc lines h k) in
    let to_end : f ≡ front ++ (lines ++ ((h ++ k) ++ 10 ∷ [])) = five ∙ ap (λ z. z ++ 10 ∷ []) to_words ∙ append_assoc front (lines ++ (h ++ k)) (10 ∷ []) ∙ ap (λ z. front ++ z) (append_assoc lines (h ++ k) (10 ∷ [])) in
    shows_line a ((h ++ k) ++ 10 ∷ []) to_end

-- that the file is of another kind
pub said_kind : (lines what text : List ℕ) → text ≡ shown what ++ 10 ∷ [] → IsSaid lines text true
said_kind lines what text is = other_kind what is

-- whether it is, in other words
pub said-as : (lines text : List ℕ) (is_other other : Bool) → is_other ≡ other → IsSaid lines text other → IsSaid lines text is_other
said-as lines text is_other other same says = subst (λ (b : Bool). IsSaid lines text b) (sym same) says

-- the same of a note that may have been made
pub made-as : {T E : Type 0} (made : Result T E) (bytes : T → List ℕ) (lines : List ℕ) (is_other other : Bool) → is_other ≡ other → IfOk made (λ n. IsSaid lines (bytes n) other) → IfOk made (λ n. IsSaid lines (bytes n) is_other)
made-as made bytes lines is_other other same says = subst (λ (b : Bool). IfOk made (λ n. IsSaid lines (bytes n) b)) (sym same) says

-- one more line after it
pub said-more : (lines text more all : List ℕ) → all ≡ text ++ more → IsSaid lines text false → IsSaid lines all false
said-more lines text more all is (shows_line wrong rest same) =
    shows_line wrong (rest ++ more) (is ∙ ap (λ z. z ++ more) same ∙ append_assoc (wrong ++ 10 ∷ []) (lines ++ rest) more ∙ ap (λ z. (wrong ++ 10 ∷ []) ++ z) (append_assoc lines rest more))

-- It is said after the place.
pub said_at : (place lines said : List ℕ) (is_other : Bool) (note : List ℕ) → note ≡ place ++ said → IsSaid lines said is_other → IsSaidAt place lines is_other note
said_at place lines said is_other note whole says = record { said = said; whole = whole; says = says }

-- The lines of a token that was cut out of a text are the text's.
pub cut-said : (text : List ℕ) (bad : BadToken) (front token behind said : List ℕ) (is_other : Bool) → front ≡ before_token text bad → token ≡ of_token text bad → behind ≡ after_token text bad → IsSaid (both_lines front token behind) said is_other → IsSaid (source_text text bad) said is_other
cut-said text bad front token behind said is_other f t b is = subst (λ (z : List ℕ × List ℕ × List ℕ). IsSaid (both_lines z.0 z.1 z.2) said is_other) (λ i. (f i, t i, b i)) is

-- the same of a note that may have been made
pub cut-made : {T E : Type 0} (made : Result T E) (bytes : T → List ℕ) (text : List ℕ) (bad : BadToken) (front token behind : List ℕ) (is_other : Bool) → front ≡ before_token text bad → token ≡ of_token text bad → behind ≡ after_token text bad
    → IfOk made (λ n. IsSaid (both_lines front token behind) (bytes n) is_other) → IfOk made (λ n. IsSaid (source_text text bad) (bytes n) is_other)
cut-made made bytes text bad front token behind is_other f t b is = subst (λ (z : List ℕ × List ℕ × List ℕ). IfOk made (λ n. IsSaid (both_lines z.0 z.1 z.2) (bytes n) is_other)) (λ i. (f i, t i, b i)) is
