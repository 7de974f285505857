-- The expressions of `typeof` and their kinds, as one table.
use Rattle.std.specs.Prelude.{◌≡◌, List, [], ◌∷◌, Option, Some, map}
use Rattle.set_model.specs.declared.kind.Kind.{Kind}
use Rattle.set_model.specs.declared.kind.Kind.TheVariants as kinds
use Rattle.token_forms.specs.Token.{Lexeme}
use Rattle.token_forms.specs.Words.{word_value}
use Rattle.set_script.specs.declared.expression.ExpressionWord.{ExpressionWord}
use Rattle.set_script.specs.declared.expression.ExpressionWord.TheVariants as words
use Rattle.set_script.specs.Expressions.{expression_word_of}
use Rattle.set_script.specs.Script.{expression}

-- the words of an expression, and its kind
pub data IsExpression : List ExpressionWord → Kind → Type 0 where
  ip_address : IsExpression (words.Ip ∷ words.Address ∷ []) kinds.Ipv4
  ip_protocol : IsExpression (words.Ip ∷ words.Protocol ∷ []) kinds.Proto
  ip6_address : IsExpression (words.Ip6 ∷ words.Address ∷ []) kinds.Ipv6
  ip6_next_header : IsExpression (words.Ip6 ∷ words.Nexthdr ∷ []) kinds.Proto
  meta_protocol : IsExpression (words.Meta ∷ words.L4proto ∷ []) kinds.Proto
  meta_mark : IsExpression (words.Meta ∷ words.Mark ∷ []) kinds.Mark
  bare_mark : IsExpression (words.Mark ∷ []) kinds.Mark
  port : IsExpression (words.Transport ∷ words.Port ∷ []) kinds.Service
  ether_address : IsExpression (words.Ether ∷ words.Address ∷ []) kinds.Ether
  arp_ip : IsExpression (words.Arp ∷ words.Address ∷ words.Ip ∷ []) kinds.Ipv4
  arp_ether : IsExpression (words.Arp ∷ words.Address ∷ words.Ether ∷ []) kinds.Ether
  ct_mark : IsExpression (words.Ct ∷ words.Mark ∷ []) kinds.Mark
  ct_ip : IsExpression (words.Ct ∷ words.Direction ∷ words.Ip ∷ words.Address ∷ []) kinds.Ipv4
  ct_ip6 : IsExpression (words.Ct ∷ words.Direction ∷ words.Ip6 ∷ words.Address ∷ []) kinds.Ipv6
  ct_protocol : IsExpression (words.Ct ∷ words.Direction ∷ words.Protocol ∷ []) kinds.Proto

-- a token as a word of an expression
abbrev pub word_of : Lexeme → Option ExpressionWord
word_of = word_value (λ t. expression_word_of t.bytes)

-- The tokens are these words of expressions.
abbrev pub AreWords : List Lexeme → List ExpressionWord → Type 0
AreWords ts ws = map word_of ts ≡ map Some ws

-- Tokens that the grammar takes for an expression of a kind are one of the table.
abbrev pub IsOfTable : List Kind → Type 0
IsOfTable ks = (ts : List Lexeme) (kind : Kind) → (expression ks).whole ts kind → (ws : List ExpressionWord) × AreWords ts ws × IsExpression ws kind
