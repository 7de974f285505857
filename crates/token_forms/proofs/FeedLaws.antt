-- Only gaps and breaks hold line feeds.
use Rattle.std.proofs.Common.{◌≡◌, refl, sym, ◌∙◌, ap, subst, ℕ, suc, ◌+◌, ◌<◌, ◌&&◌, ◌==◌, nat_le, List, [], ◌∷◌, length, take, Bool, true, false, Option, Some, None, cond, count_by, get_or, slice_get, arith}
use Rattle.std.specs.List.{prefix_len}
use Rattle.std.proofs.lemmas.Bool.Decides.{nat_tests}
use Rattle.std.proofs.lemmas.List.Sums.{sum_by-cons, count_by_more_no}
use Rattle.std.proofs.lemmas.Option.{slice_get_within, get_or_from_slice_get}
use Rattle.token_forms.specs.declared.token.TokenKind.{TokenKind}
use Rattle.token_forms.specs.declared.token.TokenKind.TheVariants as kinds
use Rattle.token_forms.specs.declared.piece.Piece.{Piece}
use Rattle.token_forms.specs.Token.{is_break}
use Rattle.token_forms.specs.Bytes.{is_blank, is_mark_byte, is_word_byte, is_string_byte, is_line_feed}
use Rattle.token_forms.specs.Tokens.{gap, token, string_piece, joined_lines, piece, first_piece, holds_feeds}

abbrev feeds : List ℕ → ℕ
feeds bytes = count_by is_line_feed bytes

cons_feeds : (b n m : ℕ) (bytes : List ℕ) → is_line_feed b ≡ false → m ≡ suc n → feeds (take n bytes) ≡ 0 → feeds (take m (b ∷ bytes)) ≡ 0
cons_feeds b n m bytes h e k = rw e (sum_by-cons (λ x. cond (is_line_feed x) 1 0) b (take n bytes) ∙ rw h (rw k refl))

-- a run of other bytes
run_feeds : (test : ℕ → Bool) → ((b : ℕ) → test b ≡ true → is_line_feed b ≡ false) → (bytes : List ℕ) → feeds (take (prefix_len test bytes) bytes) ≡ 0
run_feeds test h [] = refl
run_feeds test h (b ∷ bytes) = go (run_feeds test h bytes) (test b) refl where
  go : feeds (take (prefix_len test bytes) bytes) ≡ 0 → (t : Bool) → test b ≡ t → feeds (take (cond t (1 + prefix_len test bytes) 0) (b ∷ bytes)) ≡ 0
  go k true e = cons_feeds b (prefix_len test bytes) (1 + prefix_len test bytes) bytes (h b e) (omega arith) k
  go k false e = refl

word_byte : (b : ℕ) → is_word_byte b ≡ true → is_line_feed b ≡ false
word_byte b h = grind (arith, nat_tests)

string_byte : (b : ℕ) → is_string_byte b ≡ true → is_line_feed b ≡ false
string_byte b h = grind (arith, nat_tests)

other_byte : (b c : ℕ) → (b == c) ≡ true → (c == 10) ≡ false → is_line_feed b ≡ false
other_byte b c h k = grind (arith, nat_tests)

-- a piece that is a token and no break holds none
record HoldsNone (b : ℕ) (bytes : List ℕ) (p : Piece) : Type 0 where
  none : (k : TokenKind) → p.kind ≡ Some k → is_break k ≡ false → feeds (take p.size (b ∷ bytes)) ≡ 0

gap_none : (b : ℕ) (bytes : List ℕ) (n : ℕ) → HoldsNone b bytes (gap n)
gap_none b bytes n = record { none = λ k e h. absurd (cc e) }

break_none : (b : ℕ) (bytes : List ℕ) → HoldsNone b bytes (token kinds.Break 1)
break_none b bytes = record { none = λ k e h. let same : kinds.Break ≡ k = cc e in let no : is_break k ≡ true = ap is_break (sym same) in absurd (cc (no, h)) }

one_none : (b : ℕ) (bytes : List ℕ) (kind : TokenKind) → is_line_feed b ≡ false → HoldsNone b bytes (token kind 1)
one_none b bytes kind h = record { none = λ k e g. cons_feeds b 0 1 bytes h (omega arith) refl }

choice_none : (b : ℕ) (bytes : List ℕ) (t : Bool) (p q : Piece) → (t ≡ true → HoldsNone b bytes p) → (t ≡ false → HoldsNone b bytes q) → HoldsNone b bytes (cond t p q)
choice_none b bytes true p q h k = h refl
choice_none b bytes false p q h k = k refl

joined_none : (b : ℕ) (bytes : List ℕ) → is_line_feed b ≡ false → HoldsNone b bytes (joined_lines bytes)
joined_none b [] h = one_none b [] kinds.Faulty h
joined_none b (c ∷ bytes) h = choice_none b (c ∷ bytes) (is_line_feed c) _ _ (λ e. gap_none b (c ∷ bytes) 2) (λ e. one_none b (c ∷ bytes) kinds.Faulty h)

string_none : (b : ℕ) (bytes : List ℕ) → is_line_feed b ≡ false → HoldsNone b bytes (string_piece bytes)
string_none b bytes h = go (slice_get bytes (prefix_len is_string_byte bytes)) refl where
  closed : (c : ℕ) → slice_get bytes (prefix_len is_string_byte bytes) ≡ Some c → (c == 34) ≡ true → feeds (take (prefix_len is_string_byte bytes + 2) (b ∷ bytes)) ≡ 0
  closed c e q =
      let within = slice_get_within bytes (prefix_len is_string_byte bytes) c e in
      let here = get_or_from_slice_get bytes (prefix_len is_string_byte bytes) c 0 e in
      let no : is_line_feed (get_or bytes (prefix_len is_string_byte bytes) 0) ≡ false = rw here (other_byte c 34 q refl) in
      let more = count_by_more_no is_line_feed bytes (prefix_len is_string_byte bytes) 0 within no in
      cons_feeds b (prefix_len is_string_byte bytes + 1) (prefix_len is_string_byte bytes + 2) bytes h (omega arith) (more ∙ run_feeds is_string_byte string_byte bytes)

  test : (t : Bool) (c : ℕ) → slice_get bytes (prefix_len is_string_byte bytes) ≡ Some c → (u : Bool) → (c == 34) ≡ u → HoldsNone b bytes (cond (t && u) (token kinds.Text (prefix_len is_string_byte bytes + 2)) (token kinds.Faulty 1))
  test true c e true q = record { none = λ k f g. closed c e q }
  test true c e false q = one_none b bytes kinds.Faulty h
  test false c e u q = one_none b bytes kinds.Faulty h

  open_end : (t : Bool) → HoldsNone b bytes (cond (t && false) (token kinds.Text (prefix_len is_string_byte bytes + 2)) (token kinds.Faulty 1))
  open_end true = one_none b bytes kinds.Faulty h
  open_end false = one_none b bytes kinds.Faulty h

  go : (o : Option ℕ) → slice_get bytes (prefix_len is_string_byte bytes) ≡ o → HoldsNone b bytes (string_piece bytes)
  go None e = rw e (open_end (nat_le (prefix_len is_string_byte bytes) 128))
  go (Some c) e = rw e (test (nat_le (prefix_len is_string_byte bytes) 128) c e (c == 34) refl)

piece_none : (b : ℕ) (bytes : List ℕ) → HoldsNone b bytes (piece b bytes)
piece_none b bytes =
    choice_none b bytes (is_blank b) _ _ (λ e. gap_none b bytes 1) (λ e.
    choice_none b bytes (b == 92) _ _ (λ e. joined_none b bytes (other_byte b 92 e refl)) (λ e.
    choice_none b bytes (b == 35) _ _ (λ e. gap_none b bytes _) (λ e.
    choice_none b bytes (is_line_feed b) _ _ (λ e. break_none b bytes) (λ plain.
    choice_none b bytes (is_mark_byte b) _ _ (λ e. one_none b bytes kinds.Mark plain) (λ e.
    choice_none b bytes (b == 34) _ _ (λ e. string_none b bytes plain) (λ e.
    choice_none b bytes (is_word_byte b) _ _
    (λ e. record { none = λ k f g. cons_feeds b (prefix_len is_word_byte bytes) (1 + prefix_len is_word_byte bytes) bytes plain (omega arith) (run_feeds is_word_byte word_byte bytes) })
    (λ e. one_none b bytes kinds.Faulty plain)))))))

token_feeds : (p : Piece) (text : List ℕ) (kind : Option TokenKind) → p ≡ first_piece text → 0 < length text → p.kind ≡ kind → holds_feeds kind ≡ false → count_by is_line_feed (take p.size text) ≡ 0
token_feeds p [] kind e some h g = absurd (omega arith)
token_feeds p (b ∷ bytes) None e some h g = absurd (cc g)
token_feeds p (b ∷ bytes) (Some k) e some h g = subst (λ (q : Piece). feeds (take q.size (b ∷ bytes)) ≡ 0) (sym e) ((piece_none b bytes).none k (ap (λ (q : Piece). q.kind) (sym e) ∙ h) g)

pub no_feeds : (p : Piece) (text : List ℕ) → p ≡ first_piece text → 0 < length text → holds_feeds p.kind ≡ false → 0 ≡ count_by is_line_feed (take p.size text)
no_feeds p text e some g = sym (token_feeds p text p.kind e some refl g)
