-- What the values of a form have, if its tokens are those of a text. The proofs below follow the table of the forms.
use Rattle.std.proofs.Common.{◌≡◌, refl, inl, inr, subst, ℕ, List, [], Bool, true, false, Option, Some, None}
use Rattle.std.specs.List.{list_all}
use Rattle.std.proofs.lemmas.Option.{cond_some}
use Rattle.token_forms.specs.declared.token.Reason.{Reason}
use Rattle.token_forms.specs.declared.token.TokenKind.{TokenKind}
use Rattle.token_forms.specs.declared.token.TokenKind.TheVariants as kinds
use Rattle.token_forms.specs.Token.{Lexeme, is_word, is_text}
use Rattle.token_forms.specs.Bytes.{is_word_byte}
use Rattle.token_forms.specs.Form.{Form, one, done, nowhere, either_form, many, last, next, ◌>>=◌}
use Rattle.token_forms.specs.Words.{word_value, word_by, word_is, lined_word_is, name, name_value, is_name, text, text_value, inside_quotes, line, lines}
use Rattle.listing_laws.specs.Listing.{IsComment, IsNameWord}
use Rattle.listing_laws.proofs.TokenBytes.{IsMade, AreMade, made_parts}

-- each value of the form has this property
pub record Yields {A : Type 0} (f : Form A) (P : A → Type 0) : Type 0 where
  pub each : (ts : List Lexeme) (a : A) → AreMade ts → f.whole ts a → P a

pub yields_bind : {A B : Type 0} {f : Form A} {g : A → Form B} {P : A → Type 0} {Q : B → Type 0} → Yields f P → ((a : A) → P a → Yields (g a) Q) → Yields (f >>= g) Q
yields_bind {A} {B} {f} {g} {P} {Q} first then = record { each = go } where
  go : (ts : List Lexeme) (b : B) → AreMade ts → (f >>= g).whole ts b → Q b
  go ts b made (a, x, y, e, w, v) = let parts = made_parts x y (subst (λ (z : List Lexeme). AreMade z) e made) in (then a (first.each x a parts.0 w)).each y b parts.1 v

-- a part whose value doesn't matter
pub yields_then : {A B : Type 0} {f : Form A} {g : A → Form B} {Q : B → Type 0} → ((a : A) → Yields (g a) Q) → Yields (f >>= g) Q
yields_then {A} {B} {f} {g} {Q} then = yields_bind {f = f} {P = λ _. Unit {0}} (record { each = λ ts a made w. tt }) (λ a u. then a)

pub yields_done : {A : Type 0} (P : A → Type 0) (a : A) → P a → Yields (done a) P
yields_done P a p = record { each = λ ts b made w. subst P w.1 p }

pub yields_nowhere : {A : Type 0} (P : A → Type 0) → Yields nowhere P
yields_nowhere P = record { each = λ ts b made w. absurd w }

pub yields_either : {A : Type 0} {f g : Form A} {P : A → Type 0} → Yields f P → Yields g P → Yields (either_form f g) P
yields_either {A} {f} {g} {P} left right = record { each = go } where
  go : (ts : List Lexeme) (a : A) → AreMade ts → (either_form f g).whole ts a → P a
  go ts a made (inl w) = left.each ts a made w
  go ts a made (inr w) = right.each ts a made w

-- what every item keeps, any number of them keeps
pub yields_many : {S : Type 0} (item : S → Form S) (P : S → Type 0) → ((s : S) → P s → Yields (item s) P) → (s : S) → P s → Yields (many item s) P
yields_many {S} item P keeps s p = record { each = λ ts s1 made w. go s1 s ts p made w } where
  go : (s1 s : S) (ts : List Lexeme) → P s → AreMade ts → (many item s).whole ts s1 → P s1
  go s1 s ts p made (last w) = subst P w.1 p
  go s2 s ts p made (next {s1 = s1} {x = x} {ts = y} w c) = let parts = made_parts x y made in go s2 s1 y ((keeps s p).each x s1 parts.0 w) parts.1 c

-- Lines keep what their statements keep.
pub yields_line : {S : Type 0} (test : Lexeme → Bool) (statement : S → Form S) (P : S → Type 0) → ((s : S) → P s → Yields (statement s) P) → (s : S × Bool) → P s.0 → Yields (many (line test statement) s) (λ s1. P s1.0)
yields_line {S} test statement P keeps s p = yields_many (line test statement) (λ (s : S × Bool). P s.0) (λ s p. go s.0 s.1 p) s p where
  go : (s : S) (b : Bool) → P s → Yields (line test statement (s, b)) (λ (s1 : S × Bool). P s1.0)
  go s true p = yields_either (yields_then (λ u. yields_done (λ (s1 : S × Bool). P s1.0) (s, true) p)) (yields_bind (keeps s p) (λ s1 q. yields_done (λ (s1 : S × Bool). P s1.0) (s1, false) q))
  go s false p = yields_then (λ u. yields_done (λ (s1 : S × Bool). P s1.0) (s, true) p)

pub yields_lines : {S : Type 0} (test : Lexeme → Bool) (statement : S → Form S) (P : S → Type 0) → ((s : S) → P s → Yields (statement s) P) → (s : S × Bool) → P s.0 → Yields (lines test statement s) P
yields_lines {S} test statement P keeps s p = yields_bind (yields_line test statement P keeps s p) (λ s1 q. yields_done P s1.0 q)

-- Tokens.
pub yields_one : {A : Type 0} (sorts : List Reason) (Is : Lexeme → A → Type 0) (P : A → Type 0) → ((t : Lexeme) (a : A) → IsMade t.kind t.bytes → Is t a → P a) → Yields (one sorts Is) P
yields_one {A} sorts Is P here = record { each = go } where
  go : (ts : List Lexeme) (a : A) → AreMade ts → (one sorts Is).whole ts a → P a
  go ts a made (t, e, is) = here t a (subst (λ (z : List Lexeme). AreMade z) e made).0 is

given_word : {A : Type 0} (k : TokenKind) (v : Option A) (a : A) → (elim (is_word k) as (λ _. Option A) [ true ↦ v | false ↦ None ]) ≡ Some a → (is_word k ≡ true) × (v ≡ Some a)
given_word {A} k v a h = go (is_word k) h where
  go : (b : Bool) → (elim b as (λ _. Option A) [ true ↦ v | false ↦ None ]) ≡ Some a → (b ≡ true) × (v ≡ Some a)
  go true h = (refl, h)
  go false h = absurd (cc h)

pub yields_word : {A : Type 0} (sorts : List Reason) (value : Lexeme → Option A) (P : A → Type 0) → ((t : Lexeme) (a : A) → list_all is_word_byte t.bytes ≡ true → value t ≡ Some a → P a) → Yields (word_by sorts value) P
yields_word {A} sorts value P here = yields_one sorts (λ t a. word_value value t ≡ Some a) P (λ t a made is. let k = given_word t.kind (value t) a is in here t a (made.word k.0) k.1)

-- a word whose text means a value
pub yields_meaning : {A : Type 0} (sorts : List Reason) (Is : List ℕ → A → Type 0) (P : A → Type 0) → ((t : List ℕ) (a : A) → Is t a → P a) → Yields (word_is sorts Is) P
yields_meaning {A} sorts Is P here = yields_one sorts (λ t a. (t.kind ≡ kinds.Word) × Is t.bytes a) P (λ t a made is. here t.bytes a is.1)

pub yields_lined : {A : Type 0} (sorts : List Reason) (Is : List ℕ → A → Type 0) (P : ℕ × A → Type 0) → ((t : List ℕ) (a : ℕ × A) → Is t a.1 → P a) → Yields (lined_word_is sorts Is) P
yields_lined {A} sorts Is P here = yields_one sorts (λ t (a : ℕ × A). (t.kind ≡ kinds.Word) × (a.0 ≡ t.line) × Is t.bytes a.1) P (λ t a made is. here t.bytes a is.2)

pub yields_name : Yields name IsNameWord
yields_name = yields_word [] name_value IsNameWord (λ t a bytes is.
    let k = cond_some (is_name t.bytes) t.bytes a is in
    subst IsNameWord k.1 (record { named = k.0; bytes = bytes }))

pub yields_text : Yields text IsComment
yields_text = yields_one [] (λ t a. text_value t ≡ Some a) IsComment (λ t a made is. go t.kind (inside_quotes t.bytes) a made.text is) where
  go : (k : TokenKind) (v a : List ℕ) → (is_text k ≡ true → IsComment v) → (elim (is_text k) as (λ _. Option (List ℕ)) [ true ↦ Some v | false ↦ None ]) ≡ Some a → IsComment a
  go k v a fits h = by (is_text k) fits h where
    by : (b : Bool) → (b ≡ true → IsComment v) → (elim b as (λ _. Option (List ℕ)) [ true ↦ Some v | false ↦ None ]) ≡ Some a → IsComment a
    by true fits h = let same : v ≡ a = cc h in subst IsComment same (fits refl)
    by false fits h = absurd (cc h)
