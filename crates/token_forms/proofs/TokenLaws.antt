-- A text's tokens are the token of its first piece, if it is one, and those after it.
use Rattle.std.proofs.Common.{◌≡◌, refl, sym, ◌∙◌, ap, ℕ, zero, suc, ◌+◌, ◌-◌, ◌≤◌, ◌<◌, List, [], ◌∷◌, length, take, drop, Bool, true, false, count_by, Option, arith, cond}
use Rattle.std.specs.List.{cons_option}
use Rattle.std.specs.Option.{option_map}
use Rattle.std.proofs.lemmas.List.Sums.{sum_by-cons}
use Rattle.token_forms.specs.Token.{Spelling}
use Rattle.token_forms.specs.Bytes.{is_line_feed}
use Rattle.token_forms.specs.Tokens.{tokens_from, first_piece, next_line}
use Rattle.token_forms.specs.declared.piece.Piece.{Piece}
use Rattle.token_forms.specs.declared.token.TokenKind.{TokenKind}
use Rattle.token_forms.specs.TokensLeft.{tokens_left}

behind-count : (b line : ℕ) (bytes : List ℕ) → next_line b line + count_by is_line_feed bytes ≡ line + count_by is_line_feed (b ∷ bytes)
behind-count b line bytes = rw (sum_by-cons (λ x. cond (is_line_feed x) 1 0) b bytes) (go (is_line_feed b)) where
  go : (t : Bool) → cond t (line + 1) line + count_by is_line_feed bytes ≡ line + (cond t 1 0 + count_by is_line_feed bytes)
  go true = omega arith
  go false = omega arith

tokens-inside : (n line place : ℕ) (bytes : List ℕ) → n ≤ length bytes → tokens_from n line place bytes ≡ tokens_from 0 (line + count_by is_line_feed (take n bytes)) (place + n) (drop n bytes)
tokens-inside zero line place bytes h =
    let same : line ≡ line + 0 = omega arith in
    let here : place ≡ place + 0 = omega arith in
    ap (λ k. tokens_from 0 k place bytes) same ∙ ap (λ k. tokens_from 0 (line + 0) k bytes) here
tokens-inside (suc n) line place [] h = absurd (omega arith)
tokens-inside (suc n) line place (b ∷ bytes) h =
    let below : n ≤ length bytes = omega arith in
    let moved : place + 1 + n ≡ place + suc n = omega arith in
    tokens-inside n (next_line b line) (place + 1) bytes below
    ∙ ap (λ k. tokens_from 0 k (place + 1 + n) (drop n bytes)) (behind-count b line (take n bytes))
    ∙ ap (λ k. tokens_from 0 (line + count_by is_line_feed (b ∷ take n bytes)) k (drop n bytes)) moved

abbrev with_piece : Piece → ℕ → ℕ → List ℕ → List Spelling → List Spelling
with_piece p line place bytes ts = cons_option (option_map (λ kind. record { kind = kind; line = line; from = place; bytes = take p.size bytes }) p.kind) ts

tokens-first : (line place : ℕ) (bytes : List ℕ) (p : Piece) → p ≡ first_piece bytes → 0 < length bytes → 0 < p.size → p.size ≤ length bytes
    → tokens_from 0 line place bytes ≡ with_piece p line place bytes (tokens_from 0 (line + count_by is_line_feed (take p.size bytes)) (place + p.size) (drop p.size bytes))
tokens-first line place [] p e some nonzero within = absurd (omega arith)
tokens-first line place (b ∷ bytes) p e some nonzero within = rw (← e) (go p.size refl nonzero within) where
  go : (n : ℕ) → p.size ≡ n → 0 < n → n ≤ length (b ∷ bytes)
      → with_piece p line place (b ∷ bytes) (tokens_from (p.size - 1) (next_line b line) (place + 1) bytes)
      ≡ with_piece p line place (b ∷ bytes) (tokens_from 0 (line + count_by is_line_feed (take p.size (b ∷ bytes))) (place + p.size) (drop p.size (b ∷ bytes)))
  go zero h z w = absurd (omega arith)
  go (suc n) h z w =
      let less : suc n - 1 ≡ n = omega arith in
      let inner : tokens_from (p.size - 1) (next_line b line) (place + 1) bytes ≡ tokens_from 0 (line + count_by is_line_feed (take p.size (b ∷ bytes))) (place + p.size) (drop p.size (b ∷ bytes)) =
      rw h (rw less (tokens-inside (suc n) line place (b ∷ bytes) w)) in
      ap (with_piece p line place (b ∷ bytes)) inner

-- the same in the words of the lexer
pub left-first : (ended : Bool) (line place : ℕ) (rest front behind : List ℕ) (p : Piece) (feeds : ℕ) (all : List Spelling) (kind : Option TokenKind)
    → tokens_left ended line place rest ≡ all → ended ≡ false → p ≡ first_piece rest → 0 < length rest → 0 < p.size → p.size ≤ length rest
    → front ≡ take p.size rest → behind ≡ drop p.size rest → feeds ≡ count_by is_line_feed (take p.size rest) → p.kind ≡ kind
    → all ≡ cons_option (option_map (λ kind. record { kind = kind; line = line; from = place; bytes = front }) kind) (tokens_left ended (line + feeds) (place + p.size) behind)
left-first ended line place rest front behind p feeds all kind same going e some nonzero within f b n k =
    let open_same : tokens_left false line place rest ≡ all = rw going at same in
    rw (going, n, f, b, ← k) (sym open_same ∙ tokens-first line place rest p e some nonzero within)
