-- A text has one end, its last token.
use Rattle.std.proofs.Common.{◌≡◌, refl, sym, ap, subst, ℕ, zero, suc, ◌+◌, ◌-◌, ◌==◌, not, List, [], ◌∷◌, ◌++◌, Bool, true, false, Option, Some, None, take, cond}
use Rattle.std.specs.List.{cons_option, prefix_len}
use Rattle.std.specs.Option.{option_map}
use Rattle.token_forms.specs.declared.token.TokenKind.{TokenKind}
use Rattle.token_forms.specs.declared.token.TokenKind.TheVariants as kinds
use Rattle.token_forms.specs.declared.piece.Piece.{Piece}
use Rattle.token_forms.specs.Token.{Spelling, is_end}
use Rattle.token_forms.specs.Bytes.{is_blank, is_mark_byte, is_word_byte, is_line_feed}
use Rattle.token_forms.specs.Tokens.{tokens_from, piece, gap, token, joined_lines, string_piece, next_line}
use Rattle.token_forms.specs.TextTokens.{is_change_word, linked, text_tokens, plain_tokens, tokens_by}
use Rattle.token_forms.proofs.WholeLaws.{Ends}

-- a piece that isn't the end
record NoEndPiece (p : Piece) : Type 0 where
  no_end : (k : TokenKind) → p.kind ≡ Some k → is_end k ≡ false

gap_good : (n : ℕ) → NoEndPiece (gap n)
gap_good n = record { no_end = λ k e. absurd (cc e) }

token_good : (kind : TokenKind) (n : ℕ) → is_end kind ≡ false → NoEndPiece (token kind n)
token_good kind n h = record { no_end = λ k e. let same : kind ≡ k = cc e in subst (λ z. is_end z ≡ false) same h }

choice_good : (t : Bool) (p q : Piece) → NoEndPiece p → NoEndPiece q → NoEndPiece (cond t p q)
choice_good true p q h k = h
choice_good false p q h k = k

joined_good : (bytes : List ℕ) → NoEndPiece (joined_lines bytes)
joined_good [] = token_good kinds.Faulty 1 refl
joined_good (b ∷ bytes) = choice_good (is_line_feed b) _ _ (gap_good 2) (token_good kinds.Faulty 1 refl)

string_good : (bytes : List ℕ) → NoEndPiece (string_piece bytes)
string_good bytes = search (choice_good, token_good)

piece_good : (b : ℕ) (bytes : List ℕ) → NoEndPiece (piece b bytes)
piece_good b bytes =
    choice_good (is_blank b) _ _ (gap_good 1)
    (choice_good (b == 92) _ _ (joined_good bytes)
    (choice_good (b == 35) _ _ (gap_good (1 + prefix_len (λ c. not (is_line_feed c)) bytes))
    (choice_good (is_line_feed b) _ _ (token_good kinds.Break 1 refl)
    (choice_good (is_mark_byte b) _ _ (token_good kinds.Mark 1 refl)
    (choice_good (b == 34) _ _ (string_good bytes)
    (choice_good (is_word_byte b) _ _ (token_good kinds.Word (1 + prefix_len is_word_byte bytes) refl) (token_good kinds.Faulty 1 refl)))))))

abbrev NoEndSpelled : List Spelling → Type 0
NoEndSpelled [] = Unit {0}
NoEndSpelled (t ∷ ts) = (is_end t.kind ≡ false) × NoEndSpelled ts

record SpelledEnds (ts : List Spelling) : Type 0 where
  others : List Spelling
  last : Spelling
  split : ts ≡ others ++ last ∷ []
  is_end : is_end last.kind ≡ true
  inner : NoEndSpelled others

ends_cons : (kind : Option TokenKind) (line place : ℕ) (bytes : List ℕ) (ts : List Spelling) → ((k : TokenKind) → kind ≡ Some k → is_end k ≡ false) → SpelledEnds ts
    → SpelledEnds (cons_option (option_map (λ kind. record { kind = kind; line = line; from = place; bytes = bytes }) kind) ts)
ends_cons None line place bytes ts h e = e
ends_cons (Some k) line place bytes ts h e = record {
  others = record { kind = k; line = line; from = place; bytes = bytes } ∷ e.others;
  last = e.last;
  split = ap (λ z. record { kind = k; line = line; from = place; bytes = bytes } ∷ z) e.split;
  is_end = e.is_end;
  inner = (h k refl, e.inner);
}

tokens_end : (inside line place : ℕ) (bytes : List ℕ) → SpelledEnds (tokens_from inside line place bytes)
tokens_end inside line place [] = record { others = []; last = record { kind = kinds.End; line = line; from = place; bytes = [] }; split = refl; is_end = refl; inner = tt }
tokens_end (suc inside) line place (b ∷ bytes) = tokens_end inside (next_line b line) (place + 1) bytes
tokens_end zero line place (b ∷ bytes) =
    ends_cons (piece b bytes).kind line place (take (piece b bytes).size (b ∷ bytes)) (tokens_from ((piece b bytes).size - 1) (next_line b line) (place + 1) bytes) ((piece_good b bytes).no_end)
    (tokens_end ((piece b bytes).size - 1) (next_line b line) (place + 1) bytes)

linked_end : (plain behind : Bool) (others : List Spelling) (last : Spelling) → is_end last.kind ≡ true → NoEndSpelled others → Ends (linked plain behind (others ++ last ∷ []))
linked_end plain behind [] last h k = record { others = []; last = record { kind = last.kind; line = last.line; from = last.from; bytes = last.bytes; behind = behind; plain = plain }; split = refl; is_end = h; inner = tt }
linked_end plain behind (t ∷ others) last h k =
    let e = linked_end plain (is_change_word t.kind t.bytes) others last h k.1 in
    record {
      others = record { kind = t.kind; line = t.line; from = t.from; bytes = t.bytes; behind = behind; plain = plain } ∷ e.others;
      last = e.last;
      split = ap (λ z. record { kind = t.kind; line = t.line; from = t.from; bytes = t.bytes; behind = behind; plain = plain } ∷ z) e.split;
      is_end = e.is_end;
      inner = (k.0, e.inner);
    }

pub tokens_ends : (plain : Bool) (text : List ℕ) → Ends (tokens_by plain text)
tokens_ends plain text = let e = tokens_end 0 1 0 text in subst (λ z. Ends (linked plain false z)) (sym e.split) (linked_end plain false e.others e.last e.is_end e.inner)

pub text_ends : (text : List ℕ) → Ends (text_tokens text)
text_ends text = tokens_ends false text

pub plain_ends : (text : List ℕ) → Ends (plain_tokens text)
plain_ends text = tokens_ends true text
