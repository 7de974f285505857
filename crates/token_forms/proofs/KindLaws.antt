-- A token is of one kind: a word is no break, no mark and no end, and one mark is no other.
use Rattle.std.proofs.Common.{◌≡◌, inl, inr, refl, ℕ, [], ◌∷◌, Bool, true, false, ◌||◌}
use Rattle.token_forms.specs.Token.{Lexeme, is_end}
use Rattle.token_forms.specs.Words.{any_word, is_the_mark, breaks_off, separates}
use Rattle.token_forms.proofs.FormLaws.{either_test}
use Rattle.token_forms.proofs.WordLaws.{any_text, word_kind, mark_kind, break_kind, text_kind, end_kind, both, either_true, bytes_same}

pub word_no_break : (t : Lexeme) → any_word t ≡ true → breaks_off t ≡ false
word_no_break t h = rw (word_kind t.kind h) refl

pub word_no_separator : (t : Lexeme) → any_word t ≡ true → separates t ≡ false
word_no_separator t h = rw (word_kind t.kind h) refl

pub word_no_mark : (b : ℕ) (t : Lexeme) → any_word t ≡ true → is_the_mark b t ≡ false
word_no_mark b t h = rw (word_kind t.kind h) refl

pub text_no_break : (t : Lexeme) → any_text t ≡ true → breaks_off t ≡ false
text_no_break t h = rw (text_kind t.kind h) refl

pub break_no_word : (t : Lexeme) → breaks_off t ≡ true → any_word t ≡ false
break_no_word t h = rw (break_kind t.kind h) refl

pub mark_no_word : (b : ℕ) (t : Lexeme) → is_the_mark b t ≡ true → any_word t ≡ false
mark_no_word b t h = rw (mark_kind t.kind ((both _ _ h).0)) refl

pub mark_no_break : (b : ℕ) (t : Lexeme) → is_the_mark b t ≡ true → breaks_off t ≡ false
mark_no_break b t h = rw (mark_kind t.kind ((both _ _ h).0)) refl

-- `}` is no `;`
pub closing_no_separator : (t : Lexeme) → is_the_mark 125 t ≡ true → separates t ≡ false
closing_no_separator t h = let k = both _ _ h in rw (mark_kind t.kind k.0, bytes_same t.bytes (125 ∷ []) k.1) refl

-- `}` is no `,`
pub closing_no_comma : (t : Lexeme) → is_the_mark 125 t ≡ true → is_the_mark 44 t ≡ false
closing_no_comma t h = let k = both _ _ h in rw (mark_kind t.kind k.0, bytes_same t.bytes (125 ∷ []) k.1) refl

-- `,` is no `;`
pub comma_no_separator : (t : Lexeme) → is_the_mark 44 t ≡ true → separates t ≡ false
comma_no_separator t h = let k = both _ _ h in rw (mark_kind t.kind k.0, bytes_same t.bytes (44 ∷ []) k.1) refl

pub separator_no_comma : (t : Lexeme) → separates t ≡ true → is_the_mark 44 t ≡ false
separator_no_comma t h = go (is_the_mark 44 t) refl where
  go : (b : Bool) → is_the_mark 44 t ≡ b → b ≡ false
  go false e = refl
  go true e = let k = comma_no_separator t e in absurd (cc (k, h))

pub separator_no_word : (t : Lexeme) → separates t ≡ true → any_word t ≡ false
separator_no_word t h = elim (either_true _ _ h) [ inl k ↦ break_no_word t k | inr k ↦ mark_no_word 59 t k ]

pub neither : (a b : Bool) → a ≡ false → b ≡ false → (a || b) ≡ false
neither a b h k = rw (h, k) refl

-- a word or `}` is no break
pub word_or_closing_no_break : (t : Lexeme) → either_test any_word (is_the_mark 125) t ≡ true → breaks_off t ≡ false
word_or_closing_no_break t h = elim (either_true _ _ h) [ inl k ↦ word_no_break t k | inr k ↦ mark_no_break 125 t k ]

-- a separator or `}` is no word
pub separator_or_closing_no_word : (t : Lexeme) → either_test separates (is_the_mark 125) t ≡ true → any_word t ≡ false
separator_or_closing_no_word t h = elim (either_true _ _ h) [ inl k ↦ separator_no_word t k | inr k ↦ mark_no_word 125 t k ]

-- the end separates nothing and begins no statement
pub end_no_line : (t : Lexeme) → is_end t.kind ≡ true → either_test separates any_word t ≡ false
end_no_line t h = rw (end_kind t.kind h) refl

pub end_no_break_line : (t : Lexeme) → is_end t.kind ≡ true → either_test breaks_off any_word t ≡ false
end_no_break_line t h = rw (end_kind t.kind h) refl
