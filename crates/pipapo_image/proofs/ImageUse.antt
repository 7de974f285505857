-- What an image guarantees to users of its index.
use Rattle.std.proofs.Common.{◌≡◌, sym, ◌∙◌, subst, ℕ, zero, suc, ◌^◌, ◌<◌, true, ◌==◌, nat_lt, List, [], ◌∷◌, length, get_or, arith}
use Rattle.std.specs.Prelude.{All}
use Rattle.std.proofs.lemmas.Bool.{and_parts}
use Rattle.std.proofs.lemmas.Bool.Decides.{nat_tests}
use Rattle.std.proofs.lemmas.List.Elements.{All-weaker}
use Rattle.lookup_table.specs.declared.table.FieldTable.{FieldTable}
use Rattle.set_model.specs.declared.kind.Kind.{Kind}
use Rattle.set_model.specs.declared.kind.Kind.TheVariants.{Ipv4}
use Rattle.set_model.specs.declared.kind.Interval.{Interval}
use Rattle.set_model.specs.declared.element.Element.{Element}
use Rattle.set_model.specs.Kind.{bits_of}
use Rattle.set_model.specs.Key.{key_fits, values_fit, parts_fit, intervals_fit}
use Rattle.set_model.specs.SetState.{field_rules}
use Rattle.pipapo_image.specs.declared.index.Index.{Index}
use Rattle.pipapo_image.specs.Index.Walk.{IsKeyOf}
use Rattle.pipapo_image.specs.Index.{IsIndexOf}
use Rattle.pipapo_image.specs.Image.{IsImage}

pub field-rules : (kinds : List Kind) (es : List Element) (index : Index) (f : ℕ) (t : FieldTable) → IsIndexOf kinds es index → f < length kinds
    → length (field_rules kinds f es) ≡ (get_or index.fields f t).rules
field-rules kinds es index f t i h = (i.fields.each f Ipv4 t h).stands.one_each

pub from-equal : (m n : ℕ) → (m == n) ≡ true → n ≡ m
from-equal m n h = grind (arith, nat_tests)

from-less : (m n : ℕ) → nat_lt m n ≡ true → m < n
from-less m n h = grind (arith, nat_tests)

value-within : (kinds : List Kind) (key : List ℕ) (f : ℕ) (k : Kind) → values_fit kinds key ≡ true → f < length kinds → f < length key → get_or key f 0 < 2 ^ bits_of (get_or kinds f k)
value-within [] key f k h a b = absurd (omega arith)
value-within (x ∷ kinds) [] f k h a b = absurd (omega arith)
value-within (x ∷ kinds) (v ∷ key) zero k h a b = from-less v (2 ^ bits_of x) (and_parts (nat_lt v (2 ^ bits_of x)) (values_fit kinds key) h).0
value-within (x ∷ kinds) (v ∷ key) (suc f) k h a b = value-within kinds key f k (and_parts (nat_lt v (2 ^ bits_of x)) (values_fit kinds key) h).1 (omega arith) (omega arith)

pub key-of : (kinds : List Kind) (es : List Element) (index : Index) (key : List ℕ) → IsImage kinds es index → key_fits kinds key ≡ true → IsKeyOf index.fields key
key-of kinds es index key i h =
    let parts = and_parts (length kinds == length key) (values_fit kinds key) h in
    let n = from-equal (length kinds) (length key) parts.0 in
    let m = i.tables.fields.one_each in
    record {
      one_each = n ∙ sym m;
      within = λ f t l.
          let a : f < length kinds = omega arith in
          let b : f < length key = omega arith in
          subst (λ z. get_or key f 0 < 2 ^ z) (sym (i.tables.fields.each f Ipv4 t a).bits) (value-within kinds key f Ipv4 parts.1 a b);
    }

pub parts-long : (kinds : List Kind) (parts : List Interval) → parts_fit kinds parts ≡ true → length parts ≡ length kinds
parts-long kinds parts h = from-equal (length kinds) (length parts) (and_parts (length kinds == length parts) (intervals_fit kinds parts) h).0

pub all-long : (kinds : List Kind) (es : List Element) → All (λ e. parts_fit kinds e.parts ≡ true) es → All (λ e. length e.parts ≡ length kinds) es
all-long kinds es h =
    let P : Element → Type 0 = λ e. parts_fit kinds e.parts ≡ true in
    let Q : Element → Type 0 = λ e. length e.parts ≡ length kinds in
    All-weaker P Q (λ e g. parts-long kinds e.parts g) es h

pub key-long : (kinds : List Kind) (key : List ℕ) → key_fits kinds key ≡ true → length key ≡ length kinds
key-long kinds key h = from-equal (length kinds) (length key) (and_parts (length kinds == length key) (values_fit kinds key) h).0
