-- Forms of one token, and of tokens that are skipped.
use Rattle.std.specs.Prelude.{◌≡◌, ℕ, List, [], ◌∷◌, length, take, drop, ◌-◌, Bool, true, false, ◌&&◌, ◌||◌, nat_le, Option, Some, None, bytes_eq, ◌==◌, cond}
use Rattle.token_forms.specs.declared.token.TokenKind.TheVariants as kinds
use Rattle.token_forms.specs.declared.token.Reason.{Reason}
use Rattle.token_forms.specs.Token.{Lexeme, is_word, is_end, is_break, is_mark, is_text}
use Rattle.token_forms.specs.Form.{Form, one, done, either_form, many, ◌>>=◌, ◌>>◌}

abbrev pub if_true : Bool → Option (Unit {0})
if_true true = Some tt
if_true false = None

-- a word that means a value by its line and its bytes
abbrev pub word_value : {A : Type 0} → (Lexeme → Option A) → Lexeme → Option A
word_value value t = elim (is_word t.kind) [ true ↦ value t | false ↦ None ]

abbrev pub word_by : {A : Type 0} → List Reason → (Lexeme → Option A) → Form A
word_by sorts value = one sorts (λ t a. word_value value t ≡ Some a)

-- a word whose text means a value by a relation
abbrev pub word_is : {A : Type 0} → List Reason → (List ℕ → A → Type 0) → Form A
word_is sorts Is = one sorts (λ t a. (t.kind ≡ kinds.Word) × Is t.bytes a)

-- the same with the line of the word
abbrev pub lined_word_is : {A : Type 0} → List Reason → (List ℕ → A → Type 0) → Form (ℕ × A)
lined_word_is sorts Is = one sorts (λ t a. (t.kind ≡ kinds.Word) × (a.0 ≡ t.line) × Is t.bytes a.1)

-- this word
abbrev pub this_word : List ℕ → Lexeme → Option (Unit {0})
this_word text t = if_true (bytes_eq t.bytes text)

abbrev pub word : List ℕ → Form (Unit {0})
word text = word_by [] (this_word text)

-- a name has at most 127 bytes and begins with a letter or `_`
abbrev pub most_name_bytes : ℕ
most_name_bytes = 127

abbrev pub is_letter : ℕ → Bool
is_letter b = (nat_le 65 b && nat_le b 90) || (nat_le 97 b && nat_le b 122)

abbrev pub begins_as_name : List ℕ → Bool
begins_as_name [] = false
begins_as_name (b ∷ bytes) = is_letter b || (b == 95)

abbrev pub is_name : List ℕ → Bool
is_name text = begins_as_name text && nat_le (length text) most_name_bytes

abbrev pub name_value : Lexeme → Option (List ℕ)
name_value t = cond (is_name t.bytes) (Some t.bytes) None

abbrev pub name : Form (List ℕ)
name = word_by [] name_value

-- this mark
abbrev pub is_the_mark : ℕ → Lexeme → Bool
is_the_mark b t = is_mark t.kind && bytes_eq t.bytes (b ∷ [])

abbrev pub mark : ℕ → Form (Unit {0})
mark b = one [] (λ t a. if_true (is_the_mark b t) ≡ Some a)

-- a string, without its quotes
abbrev pub inside_quotes : List ℕ → List ℕ
inside_quotes bytes = take (length bytes - 2) (drop 1 bytes)

abbrev pub text_value : Lexeme → Option (List ℕ)
text_value t = elim (is_text t.kind) [ true ↦ Some (inside_quotes t.bytes) | false ↦ None ]

abbrev pub text : Form (List ℕ)
text = one [] (λ t a. text_value t ≡ Some a)

abbrev pub the_end : Form (Unit {0})
the_end = one [] (λ t a. is_end t.kind ≡ true)

-- any word at all
abbrev pub any_word : Lexeme → Bool
any_word t = is_word t.kind

-- breaks and separators
abbrev pub breaks_off : Lexeme → Bool
breaks_off t = is_break t.kind

abbrev pub separates : Lexeme → Bool
separates t = is_break t.kind || is_the_mark 59 t

abbrev pub passed : (Lexeme → Bool) → Form (Unit {0})
passed test = one [] (λ t a. (if_true (test t)) ≡ Some a)

-- any number of tokens that pass a test
abbrev pub skip : (Lexeme → Bool) → Form (Unit {0})
skip test = many (λ _. passed test) tt

abbrev pub breaks : Form (Unit {0})
breaks = skip breaks_off

abbrev pub separators : Form (Unit {0})
separators = skip separates

-- Lines: statements with separators between them, and any number of separators before the first and after the last. `open`: a statement may come next.
abbrev pub line : {S : Type 0} → (Lexeme → Bool) → (S → Form S) → S × Bool → Form (S × Bool)
line test statement (s, true) = either_form (passed test >> done (s, true)) (statement s >>= λ s1. done (s1, false))
line test statement (s, false) = passed test >> done (s, true)

abbrev pub lines : {S : Type 0} → (Lexeme → Bool) → (S → Form S) → S × Bool → Form S
lines test statement s = many (line test statement) s >>= λ s1. done s1.0
