-- A place in a text's tokens, by the number of tokens before it.
use Rattle.std.proofs.Common.{◌≡◌, refl, sym, ◌∙◌, ap, subst, ℕ, ◌+◌, ◌≤◌, List, [], ◌∷◌, ◌++◌, length, Option, Some, None, IsNone, IfSome, arith, append_assoc, length-append}
use Rattle.token_forms.specs.Token.{Lexeme}
use Rattle.token_forms.specs.View.{lexeme_of}
use Rattle.token_forms.specs.TextTokens.{text_tokens, plain_tokens}
use Rattle.token_forms.specs.Form.{Form}
use Rattle.token_forms.specs.Faults.{IsFault}
use Rattle.token_forms.specs.BadTokens.{IsLexemeSeen, IsBadTokenAmong, IsBadTokenOf, IsPlainBadTokenOf, bad_token_of}
use Rattle.token_forms.specs.declared.bad_token.BadToken.{BadToken}
use Rattle.token_forms.specs.declared.seen.Seen.{Seen}
use Rattle.token_forms.specs.declared.token.Reason.{Reason}

-- the tokens that were passed over, with those ahead n in number, and the last of them
pub record Passed (all reader ahead : List Lexeme) (n : ℕ) (last : Option Seen) : Type 0 where
  pub front : List Lexeme
  pub split : all ≡ front ++ reader
  pub count : length front + length ahead ≡ n
  pub last_is : (q : List Lexeme) (t : Lexeme) → front ≡ q ++ t ∷ [] → IsLexemeSeen t last

no_last : (q : List Lexeme) (t : Lexeme) → [] ≡ q ++ t ∷ [] → ⊥
no_last [] t e = cc e
no_last (u ∷ q) t e = cc e

pub passed-begin : (all ahead : List Lexeme) → Passed all all ahead (length ahead) None
passed-begin all ahead = record { front = []; split = refl; count = omega arith; last_is = λ q t e. no_last q t e }

same_last : (p q : List Lexeme) (t u : Lexeme) → p ++ t ∷ [] ≡ q ++ u ∷ [] → t ≡ u
same_last [] [] t u e = cc e
same_last [] (w ∷ q) t u e = absurd (no_last q u (cc e))
same_last (v ∷ p) [] t u e = absurd (no_last p t (sym (cc e)))
same_last (v ∷ p) (w ∷ q) t u e = same_last p q t u (cc e)

pub passed-next : {all reader ahead : List Lexeme} {n : ℕ} {last : Option Seen} (r a : List Lexeme) (u : Lexeme) (seen : Option Seen) → Passed all reader ahead n last → ahead ≡ u ∷ a → n ≤ length all
    → (IsNone seen → (reader ≡ []) × (r ≡ [])) → IfSome seen (λ t. reader ≡ lexeme_of t ∷ r) → Passed all r a n seen
passed-next {all} {reader} {ahead} {n} {last} r a u None p e low h k =
    let gone = h refl in absurd (omega (arith, ap length e, ap length p.split, length-append p.front reader, ap length gone.0, p.count))
passed-next {all} {reader} {ahead} {n} {last} r a u (Some s) p e low h k = record {
  front = p.front ++ lexeme_of s ∷ [];
  split = p.split ∙ ap (λ z. p.front ++ z) k ∙ sym (append_assoc p.front (lexeme_of s ∷ []) r);
  count = omega (arith, ap length e, p.count, length-append p.front (lexeme_of s ∷ []));
  last_is = λ q t i. same_last p.front q (lexeme_of s) t i;
}

-- two lists of one length that begin a list are the same
same_front : (p q r s : List Lexeme) → length p ≡ length q → p ++ r ≡ q ++ s → p ≡ q
same_front [] [] r s l e = refl
same_front [] (u ∷ q) r s l e = absurd (omega arith)
same_front (t ∷ p) [] r s l e = absurd (omega arith)
same_front (t ∷ p) (u ∷ q) r s l e = let same : t ≡ u = cc e in let i : p ≡ q = same_front p q r s (omega arith) (cc e) in cc (same, i)

pub passed-end : {all reader ahead : List Lexeme} {n : ℕ} {last : Option Seen} → Passed all reader ahead n last → ahead ≡ [] → (before : List Lexeme) (t : Lexeme) (rest : List Lexeme) → all ≡ before ++ t ∷ rest → n ≡ length before + 1 → IsLexemeSeen t last
passed-end {all} {reader} {ahead} {n} {last} p e before t rest s c =
    let size : length p.front ≡ length (before ++ t ∷ []) = omega (arith, ap length e, p.count, length-append before (t ∷ [])) in
    p.last_is before t (same_front p.front (before ++ t ∷ []) reader rest size (sym p.split ∙ s ∙ sym (append_assoc before (t ∷ []) rest)))

-- the text is refused for the token after which these are left
abbrev pub IsRefusedAt : {A : Type 0} → Form A → List Lexeme → ℕ → Reason → List Lexeme → Type 0
IsRefusedAt f ts line reason left = (k : IsFault f ts line reason) × (k.behind ≡ left)

split_at : {A : Type 0} {f : Form A} (ts : List Lexeme) (line : ℕ) (reason : Reason) (left : List Lexeme) (k : IsRefusedAt f ts line reason left) → ts ≡ k.0.before ++ k.0.bad ∷ left
split_at ts line reason left k = k.0.split ∙ ap (λ z. k.0.before ++ k.0.bad ∷ z) k.1

pub left_within : {A : Type 0} {f : Form A} (ts : List Lexeme) (line : ℕ) (reason : Reason) (left : List Lexeme) → IsRefusedAt f ts line reason left → length left ≤ length ts
left_within ts line reason left k = omega (arith, ap length (split_at ts line reason left k), length-append k.0.before (k.0.bad ∷ left))

bad_token_among : {A : Type 0} {f : Form A} (ts : List Lexeme) (text : List ℕ) (line : ℕ) (reason : Reason) (left : List Lexeme) (found : Option BadToken) → IsRefusedAt f ts line reason left
    → ((before : List Lexeme) (t : Lexeme) → ts ≡ before ++ t ∷ left → found ≡ Some (bad_token_of text t reason)) → IsBadTokenAmong f ts text found
bad_token_among {A} {f} ts text line reason left found k h =
    subst (IsBadTokenAmong f ts text) (sym (h k.0.before k.0.bad (split_at ts line reason left k))) (record {
      fault = record { outside = k.0.outside; before = k.0.before; bad = k.0.bad; behind = k.0.behind; split = k.0.split; is_bad = k.0.is_bad; in_line = refl; is_reason = k.0.is_reason };
      placed = refl;
    })

pub bad_token_is : {A : Type 0} {f : Form A} (text : List ℕ) (line : ℕ) (reason : Reason) (left : List Lexeme) (found : Option BadToken) → IsRefusedAt f (text_tokens text) line reason left
    → ((before : List Lexeme) (t : Lexeme) → text_tokens text ≡ before ++ t ∷ left → found ≡ Some (bad_token_of text t reason)) → IsBadTokenOf f text found
bad_token_is text line reason left found k h = bad_token_among (text_tokens text) text line reason left found k h

pub plain_bad_token_is : {A : Type 0} {f : Form A} (text : List ℕ) (line : ℕ) (reason : Reason) (left : List Lexeme) (found : Option BadToken) → IsRefusedAt f (plain_tokens text) line reason left
    → ((before : List Lexeme) (t : Lexeme) → plain_tokens text ≡ before ++ t ∷ left → found ≡ Some (bad_token_of text t reason)) → IsPlainBadTokenOf f text found
plain_bad_token_is text line reason left found k h = bad_token_among (plain_tokens text) text line reason left found k h
