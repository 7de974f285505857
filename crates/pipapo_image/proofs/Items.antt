-- The items of fields, as the code reads them.
use Rattle.std.proofs.Common.{◌≡◌, sym, ◌∙◌, ap, subst, ℕ, ◌+◌, ◌^◌, ◌<◌, ◌≤◌, List, [], ◌∷◌, length, get_or, arith}
use Rattle.std.specs.Prelude.{All, slice_index}
use Rattle.std.proofs.lemmas.List.{get_or_default}
use Rattle.lookup_table.specs.declared.table.FieldTable.{FieldTable}
use Rattle.lookup_table.specs.Rules.{Stands}
use Rattle.mapping_table.specs.Spared.{Spared}
use Rattle.set_model.specs.declared.kind.Kind.{Kind}
use Rattle.set_model.specs.declared.kind.Kind.TheVariants.{Ipv4}
use Rattle.set_model.specs.declared.element.Element.{Element}
use Rattle.set_model.specs.SetState.{field_rules}
use Rattle.set_tables.specs.declared.Span.{Span}
use Rattle.set_tables.specs.Tables.{field_spans}
use Rattle.pipapo_image.specs.Index.Walk.{IsWalk, IsKeyOf}
use Rattle.pipapo_image.specs.Index.Standing.{AreFieldsOf, AreMapsOf}

-- the table of field f represents the elements' rules there
pub field-stands : (kinds : List Kind) (es : List Element) (fields : List FieldTable) (f : ℕ) (t : FieldTable) → AreFieldsOf kinds es fields → f < length fields → t ≡ get_or fields f t
    → Stands t (field_rules kinds f es)
field-stands kinds es fields f t s h e =
    let P : FieldTable → Type 0 = λ z. Stands z (field_rules kinds f es) in
    let n = s.one_each in
    subst P (sym e) (s.each f Ipv4 t (omega arith)).stands

pub map-spans : (kinds : List Kind) (es : List Element) (maps : List (Spared Span)) (f : ℕ) (m : Spared Span) → AreMapsOf kinds es maps → f < length maps → m ≡ get_or maps f m
    → m.items ≡ field_spans kinds f es
map-spans kinds es maps f m s h e = ap (λ z. z.items) e ∙ s.each f m h

-- the spans of field f are within a row of the next field's rules
pub inside-row : (fields : List FieldTable) (maps : List (Spared Span)) (f n : ℕ) (t : FieldTable) (m : Spared Span) → IsWalk fields maps → f < length maps
    → t ≡ get_or fields (f + 1) t → m ≡ get_or maps f m → n ≡ t.rules → All (λ s. s.first + s.count ≤ n) m.items
inside-row fields maps f n t m w h te me e =
    let P : FieldTable → Spared Span → Type 0 = λ u z. All (λ s. s.first + s.count ≤ u.rules) z.items in
    let a = subst (λ u. P u (get_or maps f m)) (sym te) (w.inside f t m h) in
    let b = subst (λ z. P t z) (sym me) a in
    subst (λ k. All (λ s. s.first + s.count ≤ k) m.items) (sym e) b

-- the rules of a field, as its table's number
pub field-count : (fields : List FieldTable) (f : ℕ) (t d : FieldTable) → f < length fields → t ≡ get_or fields f t → (get_or fields f d).rules ≡ t.rules
field-count fields f t d h e = ap (λ z. z.rules) (get_or_default fields f d t h ∙ sym e)

pub key-within : (fields : List FieldTable) (key : List ℕ) (f : ℕ) (t : FieldTable) → IsKeyOf fields key → f < length fields → t ≡ get_or fields f t → slice_index key f < 2 ^ t.bits
key-within fields key f t k h e = let P : FieldTable → Type 0 = λ z. slice_index key f < 2 ^ z.bits in subst P (sym e) (k.within f t h)

-- some table, as a default
pub a-table : (fields : List FieldTable) → 0 < length fields → FieldTable
a-table [] h = absurd (omega arith)
a-table (t ∷ fields) h = t
