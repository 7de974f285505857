-- The key has room for each kind that the type of a set names.
use Rattle.std.proofs.Common.{◌≡◌, refl, ◌∙◌, ap, subst, List, true, Option, Some, None}
use Rattle.std.proofs.lemmas.Option.{cond_some}
use Rattle.set_model.specs.declared.kind.Kind.{Kind}
use Rattle.token_forms.specs.Token.{Lexeme}
use Rattle.token_forms.specs.Words.{word_value}
use Rattle.token_forms.proofs.KeepLaws.{word_given}
use Rattle.set_script.specs.declared.words.TypeWord.{TypeWord}
use Rattle.set_script.specs.declared.words.TypeWord.TheVariants as types
use Rattle.set_script.specs.declared.expression.Expression.{Expression}
use Rattle.set_script.specs.declared.expression.Expression.TheVariants as parts
use Rattle.set_script.specs.Names.{kind_of, kind_behind, has_room}
use Rattle.set_script.specs.Expressions.{kind_of_whole, has_room_if, roomy, grown, expression_behind}
use Rattle.set_script.specs.Script as form

-- The key has room for the kind of a whole expression.
abbrev HasRoomOf : List Kind → Expression → Type 0
HasRoomOf ks part = (kind : Kind) → kind_of_whole part ≡ Some kind → has_room ks kind ≡ true

roomy_has : (ks : List Kind) (o : Option Expression) (part : Expression) → roomy ks o ≡ Some part → HasRoomOf ks part
roomy_has ks None part h = absurd (cc h)
roomy_has ks (Some p) part h = λ kind is.
    let c = cond_some (has_room_if ks (kind_of_whole p)) p part h in
    let same : kind_of_whole p ≡ Some kind = ap kind_of_whole c.1 ∙ is in
    subst (λ (z : Option Kind). has_room_if ks z ≡ true) same c.0

word_has : (ks : List Kind) (from part : Expression) (t : Lexeme) → word_value (λ t. expression_behind ks from t.bytes) t ≡ Some part → HasRoomOf ks part
word_has ks from part t h = roomy_has ks (grown from t.bytes) part (word_given (λ t. expression_behind ks from t.bytes) t part h)

rest_has : (ks : List Kind) (from part : Expression) (kind : Option Kind) (x : List Lexeme) → HasRoomOf ks from → (form.rest_word ks from kind).whole x part → HasRoomOf ks part
rest_has ks from part None x r (t, e, given) = word_has ks from part t given
rest_has ks from part (Some kind) x r w = subst (HasRoomOf ks) w.1 r

whole_has : (ks : List Kind) (part : Expression) (kind : Kind) (x : List Lexeme) → HasRoomOf ks part → (form.whole_kind (kind_of_whole part)).whole x kind → has_room ks kind ≡ true
whole_has ks part kind x r w = go (kind_of_whole part) refl w where
  go : (o : Option Kind) → kind_of_whole part ≡ o → (form.whole_kind o).whole x kind → has_room ks kind ≡ true
  go None e v = absurd v
  go (Some k) e v = r kind (e ∙ ap Some v.1)

expression_has : (ks : List Kind) (x : List Lexeme) (kind : Kind) → (form.expression ks).whole x kind → has_room ks kind ≡ true
expression_has ks x kind (a, x1, y1, e1, (t, et, given), (b, x2, y2, e2, w2, (c, x3, y3, e3, w3, (d, x4, y4, e4, w4, w5)))) =
    let first = word_has ks parts.Empty a t given in
    let second = rest_has ks a b (kind_of_whole a) x2 first w2 in
    let third = rest_has ks b c (kind_of_whole b) x3 second w3 in
    let fourth = rest_has ks c d (kind_of_whole c) x4 third w4 in
    whole_has ks d kind y4 fourth w5

kind_has : (ks : List Kind) (o : Option Kind) (kind : Kind) → kind_behind ks o ≡ Some kind → has_room ks kind ≡ true
kind_has ks None kind h = absurd (cc h)
kind_has ks (Some k) kind h =
    let c = cond_some (has_room ks k) k kind h in
    subst (λ (z : Kind). has_room ks z ≡ true) c.1 c.0

pub kind_by_has : (w : TypeWord) (ks : List Kind) (x : List Lexeme) (kind : Kind) → (form.kind_by w ks).whole x kind → has_room ks kind ≡ true
kind_by_has types.Names ks x kind (t, et, given) = kind_has ks (kind_of t.bytes) kind (word_given (λ t. kind_behind ks (kind_of t.bytes)) t kind given)
kind_by_has types.Expressions ks x kind w = expression_has ks x kind w
