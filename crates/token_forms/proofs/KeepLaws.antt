-- What every item keeps, any number of them keeps.
use Rattle.std.proofs.Common.{◌≡◌, inl, inr, subst, List, Bool, true, false, Option, Some, None}
use Rattle.token_forms.specs.Token.{Lexeme, is_word}
use Rattle.token_forms.specs.Form.{Form, many, last, next}
use Rattle.token_forms.specs.Words.{line, word_value}

pub many_keeps : {S : Type 0} (item : S → Form S) (P : S → Type 0) → ((s s1 : S) (x : List Lexeme) → P s → (item s).whole x s1 → P s1)
    → (s1 s : S) (ts : List Lexeme) → P s → (many item s).whole ts s1 → P s1
many_keeps item P keeps s1 s ts p (last w) = subst P w.1 p
many_keeps item P keeps s2 s ts p (next {s1 = s1} {x = x} {ts = y} w c) = many_keeps item P keeps s2 s1 y (keeps s s1 x p w) c

-- Lines keep what their statements keep.
pub lines_keep : {S : Type 0} (test : Lexeme → Bool) (statement : S → Form S) (P : S → Type 0) → ((s s1 : S) (x : List Lexeme) → P s → (statement s).whole x s1 → P s1)
    → (s : S × Bool) (s1 : S × Bool) (ts : List Lexeme) → P s.0 → (many (line test statement) s).whole ts s1 → P s1.0
lines_keep {S} test statement P keeps s s1 ts p w = many_keeps (line test statement) (λ (s : S × Bool). P s.0) (λ s s1 x p w. line_keeps s.0 s.1 s1 x p w) s1 s ts p w where
  line_keeps : (s : S) (b : Bool) (s1 : S × Bool) (x : List Lexeme) → P s → (line test statement (s, b)).whole x s1 → P s1.0
  line_keeps s true s1 x p (inl (u, y, z, e, v, h)) = subst (λ (t : S × Bool). P t.0) h.1 p
  line_keeps s true s1 x p (inr (s2, y, z, e, v, h)) = subst (λ (t : S × Bool). P t.0) h.1 (keeps s s2 y p v)
  line_keeps s false s1 x p (u, y, z, e, v, h) = subst (λ (t : S × Bool). P t.0) h.1 p

-- a word has the value that its place asks for
pub word_given : {A : Type 0} (value : Lexeme → Option A) (t : Lexeme) (a : A) → word_value value t ≡ Some a → value t ≡ Some a
word_given {A} value t a h = go (is_word t.kind) h where
  go : (b : Bool) → (elim b as (λ _. Option A) [ true ↦ value t | false ↦ None ]) ≡ Some a → value t ≡ Some a
  go true h = h
  go false h = absurd (cc h)
