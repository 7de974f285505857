-- Each expression of the grammar is in the table.
use Rattle.std.proofs.Common.{◌≡◌, refl, sym, ◌∙◌, ap, subst, List, [], ◌∷◌, ◌++◌, map, Bool, true, false, Option, Some, None}
use Rattle.std.proofs.lemmas.Option.{cond_some}
use Rattle.set_model.specs.declared.kind.Kind.{Kind}
use Rattle.token_forms.specs.Token.{Lexeme, is_word}
use Rattle.token_forms.specs.Words.{word_value}
use Rattle.set_script.specs.declared.expression.ExpressionWord.{ExpressionWord}
use Rattle.set_script.specs.declared.expression.ExpressionWord.TheVariants as words
use Rattle.set_script.specs.declared.expression.Expression.{Expression}
use Rattle.set_script.specs.declared.expression.Expression.TheVariants as parts
use Rattle.set_script.specs.Expressions.{expression_word_of, one_further, grown_by, kind_of_whole, has_room_if, roomy, expression_behind}
use Rattle.set_script.specs.ExpressionTable.{IsExpression, ip_address, ip_protocol, ip6_address, ip6_next_header, meta_protocol, meta_mark, bare_mark, port, ether_address, arp_ip, arp_ether, ct_mark, ct_ip, ct_ip6, ct_protocol, word_of, AreWords, IsOfTable}
use Rattle.set_script.specs.Script as form

-- what has been read after these words
abbrev after : Option Expression → List ExpressionWord → Option Expression
after None ws = None
after (Some part) [] = Some part
after (Some part) (w ∷ ws) = after (one_further part w) ws

-- the words that make an expression of this kind of a part
abbrev Ends : Expression → List ExpressionWord → Kind → Type 0
Ends part ws kind = after (Some part) ws ≡ Some (parts.Whole kind)

at_end : {ws : List ExpressionWord} {known kind : Kind} → IsExpression ws known → after (Some (parts.Whole known)) [] ≡ Some (parts.Whole kind) → IsExpression ws kind
at_end {ws} {known} {kind} row h = let same : known ≡ kind = cc h in subst (IsExpression ws) same row

from_ct_ip : (ws : List ExpressionWord) (kind : Kind) → Ends parts.CtIp ws kind → IsExpression (words.Ct ∷ words.Direction ∷ words.Ip ∷ ws) kind
from_ct_ip [] kind h = absurd (cc h)
from_ct_ip (words.Address ∷ []) kind h = at_end ct_ip h
from_ct_ip (words.Address ∷ v ∷ ws) kind h = absurd (cc h)
from_ct_ip (_ ∷ ws) kind h = absurd (cc h)

from_ct_ip6 : (ws : List ExpressionWord) (kind : Kind) → Ends parts.CtIp6 ws kind → IsExpression (words.Ct ∷ words.Direction ∷ words.Ip6 ∷ ws) kind
from_ct_ip6 [] kind h = absurd (cc h)
from_ct_ip6 (words.Address ∷ []) kind h = at_end ct_ip6 h
from_ct_ip6 (words.Address ∷ v ∷ ws) kind h = absurd (cc h)
from_ct_ip6 (_ ∷ ws) kind h = absurd (cc h)

from_arp_address : (ws : List ExpressionWord) (kind : Kind) → Ends parts.ArpAddress ws kind → IsExpression (words.Arp ∷ words.Address ∷ ws) kind
from_arp_address [] kind h = absurd (cc h)
from_arp_address (words.Ip ∷ []) kind h = at_end arp_ip h
from_arp_address (words.Ip ∷ v ∷ ws) kind h = absurd (cc h)
from_arp_address (words.Ether ∷ []) kind h = at_end arp_ether h
from_arp_address (words.Ether ∷ v ∷ ws) kind h = absurd (cc h)
from_arp_address (_ ∷ ws) kind h = absurd (cc h)

from_direction : (ws : List ExpressionWord) (kind : Kind) → Ends parts.CtDirected ws kind → IsExpression (words.Ct ∷ words.Direction ∷ ws) kind
from_direction [] kind h = absurd (cc h)
from_direction (words.Ip ∷ ws) kind h = from_ct_ip ws kind h
from_direction (words.Ip6 ∷ ws) kind h = from_ct_ip6 ws kind h
from_direction (words.Protocol ∷ []) kind h = at_end ct_protocol h
from_direction (words.Protocol ∷ v ∷ ws) kind h = absurd (cc h)
from_direction (_ ∷ ws) kind h = absurd (cc h)

from_ip : (ws : List ExpressionWord) (kind : Kind) → Ends parts.Ip ws kind → IsExpression (words.Ip ∷ ws) kind
from_ip [] kind h = absurd (cc h)
from_ip (words.Address ∷ []) kind h = at_end ip_address h
from_ip (words.Address ∷ v ∷ ws) kind h = absurd (cc h)
from_ip (words.Protocol ∷ []) kind h = at_end ip_protocol h
from_ip (words.Protocol ∷ v ∷ ws) kind h = absurd (cc h)
from_ip (_ ∷ ws) kind h = absurd (cc h)

from_ip6 : (ws : List ExpressionWord) (kind : Kind) → Ends parts.Ip6 ws kind → IsExpression (words.Ip6 ∷ ws) kind
from_ip6 [] kind h = absurd (cc h)
from_ip6 (words.Address ∷ []) kind h = at_end ip6_address h
from_ip6 (words.Address ∷ v ∷ ws) kind h = absurd (cc h)
from_ip6 (words.Nexthdr ∷ []) kind h = at_end ip6_next_header h
from_ip6 (words.Nexthdr ∷ v ∷ ws) kind h = absurd (cc h)
from_ip6 (_ ∷ ws) kind h = absurd (cc h)

from_meta : (ws : List ExpressionWord) (kind : Kind) → Ends parts.Meta ws kind → IsExpression (words.Meta ∷ ws) kind
from_meta [] kind h = absurd (cc h)
from_meta (words.L4proto ∷ []) kind h = at_end meta_protocol h
from_meta (words.L4proto ∷ v ∷ ws) kind h = absurd (cc h)
from_meta (words.Mark ∷ []) kind h = at_end meta_mark h
from_meta (words.Mark ∷ v ∷ ws) kind h = absurd (cc h)
from_meta (_ ∷ ws) kind h = absurd (cc h)

from_transport : (ws : List ExpressionWord) (kind : Kind) → Ends parts.Transport ws kind → IsExpression (words.Transport ∷ ws) kind
from_transport [] kind h = absurd (cc h)
from_transport (words.Port ∷ []) kind h = at_end port h
from_transport (words.Port ∷ v ∷ ws) kind h = absurd (cc h)
from_transport (_ ∷ ws) kind h = absurd (cc h)

from_ether : (ws : List ExpressionWord) (kind : Kind) → Ends parts.Ether ws kind → IsExpression (words.Ether ∷ ws) kind
from_ether [] kind h = absurd (cc h)
from_ether (words.Address ∷ []) kind h = at_end ether_address h
from_ether (words.Address ∷ v ∷ ws) kind h = absurd (cc h)
from_ether (_ ∷ ws) kind h = absurd (cc h)

from_arp : (ws : List ExpressionWord) (kind : Kind) → Ends parts.Arp ws kind → IsExpression (words.Arp ∷ ws) kind
from_arp [] kind h = absurd (cc h)
from_arp (words.Address ∷ ws) kind h = from_arp_address ws kind h
from_arp (_ ∷ ws) kind h = absurd (cc h)

from_ct : (ws : List ExpressionWord) (kind : Kind) → Ends parts.Ct ws kind → IsExpression (words.Ct ∷ ws) kind
from_ct [] kind h = absurd (cc h)
from_ct (words.Mark ∷ []) kind h = at_end ct_mark h
from_ct (words.Mark ∷ v ∷ ws) kind h = absurd (cc h)
from_ct (words.Direction ∷ ws) kind h = from_direction ws kind h
from_ct (_ ∷ ws) kind h = absurd (cc h)

from_nothing : (ws : List ExpressionWord) (kind : Kind) → Ends parts.Empty ws kind → IsExpression ws kind
from_nothing [] kind h = absurd (cc h)
from_nothing (words.Ip ∷ ws) kind h = from_ip ws kind h
from_nothing (words.Ip6 ∷ ws) kind h = from_ip6 ws kind h
from_nothing (words.Meta ∷ ws) kind h = from_meta ws kind h
from_nothing (words.Mark ∷ []) kind h = at_end bare_mark h
from_nothing (words.Mark ∷ v ∷ ws) kind h = absurd (cc h)
from_nothing (words.Transport ∷ ws) kind h = from_transport ws kind h
from_nothing (words.Ether ∷ ws) kind h = from_ether ws kind h
from_nothing (words.Arp ∷ ws) kind h = from_arp ws kind h
from_nothing (words.Ct ∷ ws) kind h = from_ct ws kind h
from_nothing (_ ∷ ws) kind h = absurd (cc h)

-- The tokens lead from one part to another.
record Leads (from : Expression) (x : List Lexeme) (to : Expression) : Type 0 where
  ws : List ExpressionWord
  are : AreWords x ws
  leads : after (Some from) ws ≡ Some to

roomy_same : (ks : List Kind) (o : Option Expression) (part : Expression) → roomy ks o ≡ Some part → o ≡ Some part
roomy_same ks None part h = absurd (cc h)
roomy_same ks (Some p) part h = ap Some (cond_some (has_room_if ks (kind_of_whole p)) p part h).1

as_word : (b : Bool) (o w : Option ExpressionWord) → b ≡ true → o ≡ w → (elim b as (λ _. Option ExpressionWord) [ true ↦ o | false ↦ None ]) ≡ w
as_word true o w k e = e
as_word false o w k e = absurd (cc k)

one_leads : (ks : List Kind) (from part : Expression) (t : Lexeme) → word_value (λ t. expression_behind ks from t.bytes) t ≡ Some part → Leads from (t ∷ []) part
one_leads ks from part t h = by_kind (is_word t.kind) refl h where
  by_word : (o : Option ExpressionWord) → is_word t.kind ≡ true → expression_word_of t.bytes ≡ o → roomy ks (grown_by from o) ≡ Some part → Leads from (t ∷ []) part
  by_word None k e g = absurd (cc g)
  by_word (Some w) k e g =
      let word : word_of t ≡ Some w = as_word (is_word t.kind) (expression_word_of t.bytes) (Some w) k e in
      record { ws = w ∷ []; are = ap (λ z. z ∷ []) word; leads = ap (λ o. after o []) (roomy_same ks (one_further from w) part g) }

  by_kind : (b : Bool) → is_word t.kind ≡ b → (elim b as (λ _. Option Expression) [ true ↦ expression_behind ks from t.bytes | false ↦ None ]) ≡ Some part → Leads from (t ∷ []) part
  by_kind false k g = absurd (cc g)
  by_kind true k g = by_word (expression_word_of t.bytes) k refl g

none_leads : (part : Expression) → Leads part [] part
none_leads part = record { ws = []; are = refl; leads = refl }

map_both : {A B : Type 0} (f : A → B) (x y : List A) → map f (x ++ y) ≡ map f x ++ map f y
map_both f [] y = refl
map_both f (a ∷ x) y = ap (λ z. f a ∷ z) (map_both f x y)

after_both : (o : Option Expression) (ws vs : List ExpressionWord) → after o (ws ++ vs) ≡ after (after o ws) vs
after_both None ws vs = refl
after_both (Some part) [] vs = refl
after_both (Some part) (w ∷ ws) vs = after_both (one_further part w) ws vs

join : {a b c : Expression} {x y : List Lexeme} → Leads a x b → Leads b y c → Leads a (x ++ y) c
join {a} {b} {c} {x} {y} g k = record {
  ws = g.ws ++ k.ws;
  are = map_both word_of x y ∙ ap (λ z. z ++ map word_of y) g.are ∙ ap (λ z. map Some g.ws ++ z) k.are ∙ sym (map_both Some g.ws k.ws);
  leads = after_both (Some a) g.ws k.ws ∙ ap (λ o. after o k.ws) g.leads ∙ k.leads;
}

rest_leads : (ks : List Kind) (from part : Expression) (kind : Option Kind) (x : List Lexeme) → (form.rest_word ks from kind).whole x part → Leads from x part
rest_leads ks from part None x (t, e, given) = subst (λ z. Leads from z part) (sym e) (one_leads ks from part t given)
rest_leads ks from part (Some kind) x w = subst (λ z. Leads from z part) (sym w.0) (subst (λ (p : Expression). Leads from [] p) w.1 (none_leads from))

whole_is : (part : Expression) (y : List Lexeme) (kind : Kind) → (form.whole_kind (kind_of_whole part)).whole y kind → (y ≡ []) × (part ≡ parts.Whole kind)
whole_is (parts.Whole known) y kind w = (w.0, ap parts.Whole w.1)
whole_is _ y kind w = absurd w

pub expression_of_table : (ks : List Kind) → IsOfTable ks
expression_of_table ks ts kind (a, x1, y1, e1, (t, et, given), (b, x2, y2, e2, w2, (c, x3, y3, e3, w3, (d, x4, y4, e4, w4, w5)))) =
    let end = whole_is d y4 kind w5 in
    let first : Leads parts.Empty x1 a = subst (λ z. Leads parts.Empty z a) (sym et) (one_leads ks parts.Empty a t given) in
    let last : Leads d y4 d = subst (λ z. Leads d z d) (sym end.0) (none_leads d) in
    let fourth : Leads c y3 d = subst (λ z. Leads c z d) (sym e4) (join (rest_leads ks c d (kind_of_whole c) x4 w4) last) in
    let third : Leads b y2 d = subst (λ z. Leads b z d) (sym e3) (join (rest_leads ks b c (kind_of_whole b) x3 w3) fourth) in
    let second : Leads a y1 d = subst (λ z. Leads a z d) (sym e2) (join (rest_leads ks a b (kind_of_whole a) x2 w2) third) in
    let all : Leads parts.Empty ts d = subst (λ z. Leads parts.Empty z d) (sym e1) (join first second) in
    (all.ws, all.are, from_nothing all.ws kind (all.leads ∙ ap Some end.1))
