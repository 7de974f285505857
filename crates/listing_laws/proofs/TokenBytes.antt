-- The bytes of a text's tokens: a word has word bytes, and a string is such as a comment has.
use Rattle.std.proofs.Common.{◌≡◌, refl, sym, ◌∙◌, subst, ℕ, zero, suc, ◌+◌, ◌-◌, ◌≤◌, ◌&&◌, ◌==◌, nat_le, List, [], ◌∷◌, ◌++◌, length, take, Bool, true, false, true≢false, Option, Some, None, cond, arith}
use Rattle.std.specs.List.{list_all, prefix_len, cons_option}
use Rattle.std.specs.Option.{option_map}
use Rattle.std.proofs.lemmas.Bool.{and_parts, and_from, leb-true}
use Rattle.token_forms.specs.declared.token.TokenKind.{TokenKind}
use Rattle.token_forms.specs.declared.token.TokenKind.TheVariants as kinds
use Rattle.token_forms.specs.declared.piece.Piece.{Piece}
use Rattle.token_forms.specs.Token.{Spelling, Lexeme, is_word, is_text}
use Rattle.token_forms.specs.Bytes.{is_blank, is_mark_byte, is_word_byte, is_string_byte, is_line_feed}
use Rattle.token_forms.specs.Tokens.{gap, token, string_piece, joined_lines, piece, tokens_from, tokens, next_line}
use Rattle.token_forms.specs.TextTokens.{linked, is_change_word, text_tokens}
use Rattle.token_forms.specs.Words.{inside_quotes}
use Rattle.listing_laws.specs.Listing.{IsComment}

-- Each byte of a run passes its test.
run_passes : (p : ℕ → Bool) (bytes : List ℕ) (k : ℕ) → k ≤ prefix_len p bytes → list_all p (take k bytes) ≡ true
run_passes p bytes zero h = refl
run_passes p [] (suc k) h = refl
run_passes p (b ∷ bytes) (suc k) h = go (p b) refl h (run_passes p bytes k) where
  go : (t : Bool) → p b ≡ t → suc k ≤ cond t (1 + prefix_len p bytes) 0 → (k ≤ prefix_len p bytes → list_all p (take k bytes) ≡ true) → (p b && list_all p (take k bytes)) ≡ true
  go true e h rest = and_from _ _ e (rest (omega (arith, h)))
  go false e h rest = absurd (omega (arith, h))

-- a run before a later cut
front_passes : (p : ℕ → Bool) (bytes : List ℕ) (k m : ℕ) → k ≤ prefix_len p bytes → list_all p (take k (take m bytes)) ≡ true
front_passes p bytes zero m h = refl
front_passes p bytes (suc k) zero h = refl
front_passes p [] (suc k) (suc m) h = refl
front_passes p (b ∷ bytes) (suc k) (suc m) h = go (p b) refl h (front_passes p bytes k m) where
  go : (t : Bool) → p b ≡ t → suc k ≤ cond t (1 + prefix_len p bytes) 0 → (k ≤ prefix_len p bytes → list_all p (take k (take m bytes)) ≡ true) → (p b && list_all p (take k (take m bytes))) ≡ true
  go true e h rest = and_from _ _ e (rest (omega (arith, h)))
  go false e h rest = absurd (omega (arith, h))

taken_short : (n : ℕ) (bytes : List ℕ) → length (take n bytes) ≤ n
taken_short zero bytes = omega arith
taken_short (suc n) [] = omega arith
taken_short (suc n) (b ∷ bytes) = omega (arith, taken_short n bytes)

-- what a token of this kind has as bytes
pub record IsMade (kind : TokenKind) (bytes : List ℕ) : Type 0 where
  pub word : is_word kind ≡ true → list_all is_word_byte bytes ≡ true
  pub text : is_text kind ≡ true → IsComment (inside_quotes bytes)

-- neither a word nor a string
other : (kind : TokenKind) (bytes : List ℕ) → is_word kind ≡ false → is_text kind ≡ false → IsMade kind bytes
other kind bytes w t = record { word = λ e. absurd (true≢false (sym e ∙ w)); text = λ e. absurd (true≢false (sym e ∙ t)) }

word_made : (b : ℕ) (bytes : List ℕ) → is_word_byte b ≡ true → IsMade kinds.Word (take (1 + prefix_len is_word_byte bytes) (b ∷ bytes))
word_made b bytes h =
    let one : 1 + prefix_len is_word_byte bytes ≡ suc (prefix_len is_word_byte bytes) = omega arith in
    record {
      word = λ e. subst (λ (n : ℕ). list_all is_word_byte (take n (b ∷ bytes)) ≡ true) (sym one) (and_from _ _ h (run_passes is_word_byte bytes (prefix_len is_word_byte bytes) (omega arith)));
      text = λ e. absurd (true≢false (sym e));
    }

string_inside : (b n : ℕ) (bytes : List ℕ) → n ≤ prefix_len is_string_byte bytes → n ≤ 128 → IsComment (inside_quotes (take (suc (suc n)) (b ∷ bytes)))
string_inside b n bytes h short =
    let k : ℕ = suc (length (take (suc n) bytes)) - 2 in
    let le : k ≤ n = omega (arith, taken_short (suc n) bytes) in
    record {
      all = front_passes is_string_byte bytes k (suc n) (omega (arith, h, le));
      short = omega (arith, short, le, taken_short k (take (suc n) bytes));
    }

string_made : (b : ℕ) (bytes : List ℕ) → prefix_len is_string_byte bytes ≤ 128 → IsMade kinds.Text (take (prefix_len is_string_byte bytes + 2) (b ∷ bytes))
string_made b bytes short =
    let two : prefix_len is_string_byte bytes + 2 ≡ suc (suc (prefix_len is_string_byte bytes)) = omega arith in
    record {
      word = λ e. absurd (true≢false (sym e));
      text = λ e. subst (λ (n : ℕ). IsComment (inside_quotes (take n (b ∷ bytes)))) (sym two) (string_inside b (prefix_len is_string_byte bytes) bytes (omega arith) short);
    }

-- a piece that is a token has these bytes
record Makes (b : ℕ) (bytes : List ℕ) (p : Piece) : Type 0 where
  made : (k : TokenKind) → p.kind ≡ Some k → IsMade k (take p.size (b ∷ bytes))

gap_makes : (b : ℕ) (bytes : List ℕ) (n : ℕ) → Makes b bytes (gap n)
gap_makes b bytes n = record { made = λ k e. absurd (cc e) }

token_makes : (b : ℕ) (bytes : List ℕ) (kind : TokenKind) (n : ℕ) → IsMade kind (take n (b ∷ bytes)) → Makes b bytes (token kind n)
token_makes b bytes kind n is = record { made = λ k e. let same : kind ≡ k = cc e in subst (λ (z : TokenKind). IsMade z (take n (b ∷ bytes))) same is }

other_makes : (b : ℕ) (bytes : List ℕ) (kind : TokenKind) (n : ℕ) → is_word kind ≡ false → is_text kind ≡ false → Makes b bytes (token kind n)
other_makes b bytes kind n w t = token_makes b bytes kind n (other kind (take n (b ∷ bytes)) w t)

choice_makes : (b : ℕ) (bytes : List ℕ) (t : Bool) (p q : Piece) → (t ≡ true → Makes b bytes p) → (t ≡ false → Makes b bytes q) → Makes b bytes (cond t p q)
choice_makes b bytes true p q h k = h refl
choice_makes b bytes false p q h k = k refl

joined_makes : (b : ℕ) (bytes : List ℕ) → Makes b bytes (joined_lines bytes)
joined_makes b [] = other_makes b [] kinds.Faulty 1 refl refl
joined_makes b (c ∷ bytes) = choice_makes b (c ∷ bytes) (is_line_feed c) _ _ (λ e. gap_makes b (c ∷ bytes) 2) (λ e. other_makes b (c ∷ bytes) kinds.Faulty 1 refl refl)

string_makes : (b : ℕ) (bytes : List ℕ) → Makes b bytes (string_piece bytes)
string_makes b bytes =
    choice_makes b bytes _ _ _
    (λ e. token_makes b bytes kinds.Text (prefix_len is_string_byte bytes + 2) (string_made b bytes (leb-true (prefix_len is_string_byte bytes) 128 (and_parts (nat_le (prefix_len is_string_byte bytes) 128) _ e).0)))
    (λ e. other_makes b bytes kinds.Faulty 1 refl refl)

piece_makes : (b : ℕ) (bytes : List ℕ) → Makes b bytes (piece b bytes)
piece_makes b bytes =
    choice_makes b bytes (is_blank b) _ _ (λ e. gap_makes b bytes 1) (λ e.
    choice_makes b bytes (b == 92) _ _ (λ e. joined_makes b bytes) (λ e.
    choice_makes b bytes (b == 35) _ _ (λ e. gap_makes b bytes _) (λ e.
    choice_makes b bytes (is_line_feed b) _ _ (λ e. other_makes b bytes kinds.Break 1 refl refl) (λ e.
    choice_makes b bytes (is_mark_byte b) _ _ (λ e. other_makes b bytes kinds.Mark 1 refl refl) (λ e.
    choice_makes b bytes (b == 34) _ _ (λ e. string_makes b bytes) (λ e.
    choice_makes b bytes (is_word_byte b) _ _ (λ e. token_makes b bytes kinds.Word (1 + prefix_len is_word_byte bytes) (word_made b bytes e))
    (λ e. other_makes b bytes kinds.Faulty 1 refl refl)))))))

-- all tokens of a list
AreSpelled : List Spelling → Type 0
AreSpelled [] = Unit {0}
AreSpelled (t ∷ ts) = IsMade t.kind t.bytes × AreSpelled ts

abbrev pub AreMade : List Lexeme → Type 0
AreMade [] = Unit {0}
AreMade (t ∷ ts) = IsMade t.kind t.bytes × AreMade ts

pub made_parts : (x y : List Lexeme) → AreMade (x ++ y) → AreMade x × AreMade y
made_parts [] y h = (tt, h)
made_parts (t ∷ x) y h = let k = made_parts x y h.1 in ((h.0, k.0), k.1)

spelled : (bytes : List ℕ) (inside line place : ℕ) → AreSpelled (tokens_from inside line place bytes)
unfolding AreSpelled
spelled [] inside line place = (other kinds.End [] refl refl, tt)
spelled (b ∷ bytes) (suc inside) line place = spelled bytes inside (next_line b line) (place + 1)
spelled (b ∷ bytes) zero line place = go (piece b bytes).kind refl (spelled bytes ((piece b bytes).size - 1) (next_line b line) (place + 1)) where
  go : (o : Option TokenKind) → (piece b bytes).kind ≡ o → AreSpelled (tokens_from ((piece b bytes).size - 1) (next_line b line) (place + 1) bytes)
      → AreSpelled (cons_option (option_map (λ (kind : TokenKind). record { kind = kind; line = line; from = place; bytes = take (piece b bytes).size (b ∷ bytes) }) o) (tokens_from ((piece b bytes).size - 1) (next_line b line) (place + 1) bytes))
  go None e rest = rest
  go (Some k) e rest = ((piece_makes b bytes).made k e, rest)

linked_made : (plain behind : Bool) (ts : List Spelling) → AreSpelled ts → AreMade (linked plain behind ts)
unfolding AreSpelled
linked_made plain behind [] h = tt
linked_made plain behind (t ∷ ts) h = (h.0, linked_made plain (is_change_word t.kind t.bytes) ts h.1)

pub text_made : (text : List ℕ) → AreMade (text_tokens text)
text_made text = linked_made false false (tokens text) (spelled text 0 1 0)
