-- An image with a new element is an image.
use Rattle.std.proofs.Common.{◌≡◌, refl, sym, ◌∙◌, ap, subst, ℕ, suc, ◌+◌, ◌-◌, ◌<◌, ◌≤◌, Bool, true, false, nat_lt, List, [], ◌∷◌, ◌++◌, length, get_or, Option, Some, None, arith, length-append, append-nil, zero-add, add-one, zero, cond, ◌⊎◌, inl, inr}
use Rattle.std.specs.Prelude.{All, find, replicate}
use Rattle.std.specs.List.{range_with_len}
use Rattle.std.proofs.lemmas.Bool.{ltb-false, cases_lt}
use Rattle.std.proofs.lemmas.List.Elements.{All-push, All-head, All-tail}
use Rattle.std.proofs.lemmas.List.Concat.{flat_map-append}
use Rattle.std.proofs.lemmas.List.FromFn.{length-range_with_len, get_or-range_with_len}
use Rattle.lookup_table.specs.declared.table.FieldTable.{FieldTable}
use Rattle.lookup_table.specs.Width.{width_of}
use Rattle.set_model.specs.declared.block.Block.{Block}
use Rattle.set_model.specs.declared.kind.Kind.{Kind}
use Rattle.set_model.specs.declared.kind.Kind.TheVariants.{Ipv4}
use Rattle.set_model.specs.declared.kind.Interval.{Interval}
use Rattle.set_model.specs.declared.element.Element.{Element}
use Rattle.set_model.specs.Blocks.{IsWithin}
use Rattle.set_model.specs.Kind.{bits_of}
use Rattle.set_model.specs.Key.{parts_fit}
use Rattle.set_model.specs.SetState.{State, field_rules, field_blocks, rules_limit, is_crowded, crowded_field}
use Rattle.set_tables.specs.declared.Span.{Span}
use Rattle.set_tables.specs.declared.End.{End}
use Rattle.set_tables.specs.Tables.{split, field_spans, last_ends}
use Rattle.set_tables.specs.Search.{of_field}
use Rattle.set_tables.proofs.UpdateLaws.{spans-append, ends-append}
use Rattle.pipapo_image.specs.declared.index.Index.{Index}
use Rattle.pipapo_image.specs.Index.Built.{Built, EachChanged}
use Rattle.pipapo_image.specs.Index.Grow.{IsColumn, IsKept, HasSpare, IsOther, IsReady, IsGrownBy, chosen, counts, new_span, is_over}
use Rattle.pipapo_image.specs.Index.Changes.{AreColumnsOf, IsSameIndex, HasRoomFor, AreReady, IsAppended}
use Rattle.pipapo_image.specs.Index.Standing.{IsTableOf, AreFieldsOf}
use Rattle.pipapo_image.specs.Index.{IsIndexOf}
use Rattle.pipapo_image.specs.Image.{IsImage}
use Rattle.pipapo_image.proofs.GrowLaws.{count-any}
use Rattle.pipapo_image.proofs.ImageUse.{field-rules}
use Rattle.pipapo_image.proofs.Items.{a-table}

-- ---- the limit
find-same : {X : Type 0} (p q : X → Bool) (xs : List X) → All (λ x. p x ≡ q x) xs → find p xs ≡ find q xs
find-same p q [] h = refl
find-same {X} p q (x ∷ xs) h =
    let P : X → Type 0 = λ y. p y ≡ q y in
    go (p x) (q x) (All-head P x xs h) (find-same p q xs (All-tail P x xs h)) where
      go : (a b : Bool) → a ≡ b → find p xs ≡ find q xs → cond a (Some x) (find p xs) ≡ cond b (Some x) (find q xs)
      go a b e ih = ap (λ z. cond z (Some x) (find p xs)) e ∙ ap (λ z. cond b (Some x) z) ih

-- no number passes if none is found
step-none : (p : ℕ → Bool) (a m : ℕ) → find p (range_with_len a (suc m)) ≡ None → (p a ≡ false) × (find p (range_with_len (a + 1) m) ≡ None)
step-none p a m e = cases (p a) refl (find p (range_with_len (a + 1) m)) refl e where
  cases : (t : Bool) → p a ≡ t → (o : Option ℕ) → find p (range_with_len (a + 1) m) ≡ o → cond t (Some a) o ≡ None → (p a ≡ false) × (find p (range_with_len (a + 1) m) ≡ None)
  cases true q o r e = absurd (cc e)
  cases false q o r e = (q, r ∙ e)

none-passes : (p : ℕ → Bool) (m a f : ℕ) → find p (range_with_len a m) ≡ None → a ≤ f → f < a + m → p f ≡ false
none-passes p zero a f e low high = absurd (omega arith)
none-passes p (suc m) a f e low high = both (cases_lt a f) (step-none p a m e) (λ r k. none-passes p m (a + 1) f r k (omega arith)) where
  both : (a < f) ⊎ (f ≤ a) → (p a ≡ false) × (find p (range_with_len (a + 1) m) ≡ None) → (find p (range_with_len (a + 1) m) ≡ None → a + 1 ≤ f → p f ≡ false) → p f ≡ false
  both (inl b) s ih = ih s.1 (omega arith)
  both (inr b) s ih = let q : a ≡ f = omega arith in subst (λ z. p z ≡ false) q s.0

pub crowded-same : (s : State) (index : Index) (parts : List Interval) (columns : List (List Block)) → IsImage s.kinds s.elements index → Built (IsColumn s.kinds parts) columns (length s.kinds)
    → find (is_over (counts index.fields) columns) (range_with_len 0 (length index.fields)) ≡ crowded_field s parts
crowded-same s index parts columns i b =
    ap (λ n. find (is_over (counts index.fields) columns) (range_with_len 0 n)) i.tables.fields.one_each
    ∙ find-same _ _ (range_with_len 0 (length s.kinds))
    (λ k d l.
    let n = length-range_with_len 0 (length s.kinds) in
    let h : k < length s.kinds = omega arith in
    let e = get_or-range_with_len 0 (length s.kinds) k d h ∙ zero-add k in
    rw e (same k h)) where
      same : (f : ℕ) → f < length s.kinds → is_over (counts index.fields) columns f ≡ is_crowded s parts f
      same f h =
          let m = i.tables.fields.one_each in
          let g : f < length index.fields = omega arith in
          let t = a-table index.fields (omega arith) in
          let a = count-any index.fields f t g ∙ sym (field-rules s.kinds s.elements index f t i.tables h) in
          let c = ap length (b.each f [] h).split in
          ap (λ z. nat_lt rules_limit (z + length (of_field columns f))) a ∙ ap (λ z. nat_lt rules_limit (length (field_rules s.kinds f s.elements) + z)) c

pub room-left : (s : State) (parts : List Interval) (f : ℕ) → crowded_field s parts ≡ None → f < length s.kinds
    → length (field_rules s.kinds f s.elements) + length (field_blocks s.kinds f parts) ≤ rules_limit
room-left s parts f h l = ltb-false rules_limit (length (field_rules s.kinds f s.elements) + length (field_blocks s.kinds f parts)) (none-passes (is_crowded s parts) (length s.kinds) 0 f h (omega arith) (omega arith))

-- ---- before the change
pub columns-of : (s : State) (index : Index) (parts : List Interval) (columns : List (List Block)) → IsImage s.kinds s.elements index → Built (IsColumn s.kinds parts) columns (length s.kinds)
    → crowded_field s parts ≡ None → AreColumnsOf index columns
columns-of s index parts columns i b room =
    let n = i.tables.fields.one_each in
    record {
      one_each = b.one_each ∙ sym n;
      few = λ f t h.
          let l : f < length s.kinds = omega arith in
          let r = room-left s parts f room l in
          let a = field-rules s.kinds s.elements index f t i.tables l in
          let c = ap length (b.each f [] l).split in
          omega arith;
      narrow = λ f h.
          let l : f < length s.kinds = omega (arith, b.one_each) in
          let r = room-left s parts f room l in
          let c = ap length (b.each f [] l).split in
          omega arith;
    }

kept-fields : (kinds : List Kind) (es : List Element) (old new : List FieldTable) → AreFieldsOf kinds es old → EachChanged IsKept old new → AreFieldsOf kinds es new
kept-fields kinds es old new s k =
    let n = s.one_each in
    record {
      one_each = k.len ∙ s.one_each;
      each = λ f d t h.
          let l : f < length old = omega arith in
          let a = s.each f d t h in
          let b = k.each f t l in
          record { bits = b.bits ∙ a.bits; width = b.width ∙ a.width; stands = b.stands (field_rules kinds f es) a.stands };
    }

pub index-kept : (kinds : List Kind) (es : List Element) (old new : Index) → IsIndexOf kinds es old → IsSameIndex old new → IsIndexOf kinds es new
index-kept kinds es old new i k =
    record {
      fields = kept-fields kinds es old.fields new.fields i.fields k.fields;
      maps = record {
        one_fewer = ap (λ n. n + 1) k.maps.len ∙ i.maps.one_fewer;
        each = λ f m h. let n = k.maps.len in let l : f < length old.maps = omega arith in k.maps.each f m l ∙ i.maps.each f m l;
      };
      ends = k.ends ∙ i.ends;
    }

pub image-kept : (kinds : List Kind) (es : List Element) (old new : Index) → IsImage kinds es old → IsSameIndex old new → IsImage kinds es new
image-kept kinds es old new i k = record {
  some = i.some;
  few_kinds = i.few_kinds;
  fit = i.fit;
  tables = index-kept kinds es old new i.tables k;
  few_rules = i.few_rules;
}

-- the tables, or their replacements, have room for the columns
pub ready : (s : State) (old new : Index) (parts : List Interval) (columns : List (List Block)) (others : List (Option FieldTable)) → IsImage s.kinds s.elements old
    → Built (IsColumn s.kinds parts) columns (length s.kinds) → Built (λ f o. (t : FieldTable) → IsOther (length (of_field columns f)) (get_or old.fields f t) o) others (length old.fields)
    → IsSameIndex old new → HasRoomFor new columns → AreReady new others columns
ready s old new parts columns others i b o k r =
    let n = i.tables.fields.one_each in
    let m = k.fields.len in
    record {
      one_each = o.one_each ∙ sym m;
      ready = λ f t h.
          let l : f < length old.fields = omega arith in
          let g : f < length s.kinds = omega arith in
          go f t (get_or others f None) g (o.each f None l t) (k.fields.each f t l) (r.fields f t h);
    } where
      go : (f : ℕ) (t : FieldTable) (o : Option FieldTable) → f < length s.kinds → IsOther (length (of_field columns f)) (get_or old.fields f t) o → IsKept (get_or old.fields f t) (get_or new.fields f t)
          → HasSpare (length (of_field columns f)) (get_or new.fields f t) → IsReady (of_field columns f) (chosen o (get_or new.fields f t))
      go f t None g other kept spare =
          let a = i.tables.fields.each f Ipv4 t g in
          record { spare = spare; within = subst (λ z. All (IsWithin z) (of_field columns f)) (sym (kept.bits ∙ a.bits)) ((b.each f [] g).within Ipv4) }
      go f t (Some u) g other kept spare =
          let a = i.tables.fields.each f Ipv4 t g in
          record { spare = other.spare; within = subst (λ z. All (IsWithin z) (of_field columns f)) (sym (other.bits ∙ a.bits)) ((b.each f [] g).within Ipv4) }

-- ---- after it
rules-more : (kinds : List Kind) (f : ℕ) (es : List Element) (e : Element) → field_rules kinds f (es ++ e ∷ []) ≡ field_rules kinds f es ++ field_blocks kinds f e.parts
rules-more kinds f es e = flat_map-append (split kinds f) es (e ∷ []) ∙ ap (λ z. field_rules kinds f es ++ z) (append-nil (split kinds f e))

grown-table : (k : Kind) (rules column : List Block) (t u b : FieldTable) (o : Option FieldTable) → IsTableOf k rules t → IsKept t u → IsOther (length column) t o → IsGrownBy column (chosen o u) b → IsTableOf k (rules ++ column) b
grown-table k rules column t u b None s kept other g =
    let n = length-append rules column in
    let m = s.stands.one_each in
    let e : t.rules + length column ≡ length (rules ++ column) = omega arith in
    record {
      bits = g.bits ∙ kept.bits ∙ s.bits;
      width = g.width ∙ kept.width ∙ other ∙ ap (λ z. width_of z (t.rules + length column)) s.bits ∙ ap (λ z. width_of (bits_of k) z) e;
      stands = g.stands rules (kept.stands rules s.stands);
    }
grown-table k rules column t u b (Some w) s kept other g =
    let n = length-append rules column in
    let m = s.stands.one_each in
    let e : t.rules + length column ≡ length (rules ++ column) = omega arith in
    record {
      bits = g.bits ∙ other.bits ∙ s.bits;
      width = g.width ∙ other.width ∙ ap (λ z. width_of z (t.rules + length column)) s.bits ∙ ap (λ z. width_of (bits_of k) z) e;
      stands = g.stands rules (other.stands rules s.stands);
    }

-- the tables of the elements and one more element
pub index-grown : (kinds : List Kind) (es : List Element) (e : Element) (old mid new : Index) (columns : List (List Block)) (others : List (Option FieldTable)) (end : End) → 1 ≤ length kinds
    → IsIndexOf kinds es old → Built (IsColumn kinds e.parts) columns (length kinds) → Built (λ f o. (t : FieldTable) → IsOther (length (of_field columns f)) (get_or old.fields f t) o) others (length old.fields)
    → IsSameIndex old mid → IsAppended mid new others columns end → end ≡ record { place = length es; expiry = e.expiry } → IsIndexOf kinds (es ++ e ∷ []) new
index-grown kinds es e old mid new columns others end some i b o k a last =
    let n = i.fields.one_each in
    let m = k.fields.len in
    let j = i.maps.one_fewer in
    let q = k.maps.len in
    let is = index-kept kinds es old mid i k in
    record {
      fields = record {
        one_each = a.fields.len ∙ m ∙ n;
        each = λ f d t h.
            let l : f < length old.fields = omega arith in
            let g : f < length mid.fields = omega arith in
            let column = (b.each f [] h).split in
            subst (λ z. IsTableOf (get_or kinds f d) z (get_or new.fields f t)) (sym (rules-more kinds f es e))
            (subst (λ z. IsTableOf (get_or kinds f d) (field_rules kinds f es ++ z) (get_or new.fields f t)) column
            (grown-table (get_or kinds f d) (field_rules kinds f es) (of_field columns f) (get_or old.fields f t) (get_or mid.fields f t) (get_or new.fields f t) (get_or others f None)
            (i.fields.each f d t h) (k.fields.each f t l) (o.each f None l t) (a.fields.done f t g g)));
      };
      maps = record {
        one_fewer = ap (λ z. z + 1) (a.maps.len ∙ q) ∙ j;
        each = λ f d h.
            let w = a.maps.len in
            let g : f < length mid.maps = omega arith in
            let here : f < length kinds = omega arith in
            let next : f + 1 < length kinds = omega arith in
            let inside : f + 1 < length mid.fields = omega arith in
            let t = a-table mid.fields (omega arith) in
            let count = count-any mid.fields (f + 1) t inside ∙ sym (field-rules kinds es mid (f + 1) t is next) ∙ ap (λ z. length (field_rules kinds z es)) (add-one f) in
            let more = ap length (b.each (f + 1) [] next).split ∙ ap (λ z. length (field_blocks kinds z e.parts)) (add-one f) in
            let many = ap length (b.each f [] here).split in
            let span : ℕ → ℕ → Span = λ x y. record { first = x; count = y } in
            a.maps.done f d g g
            ∙ ap (λ z. z ++ replicate (length (of_field columns f)) (new_span (counts mid.fields) columns f)) (is.maps.each f d g)
            ∙ ap (λ z. field_spans kinds f es ++ replicate z (new_span (counts mid.fields) columns f)) many
            ∙ ap (λ z. field_spans kinds f es ++ replicate (length (split kinds f e)) (span z (length (of_field columns (f + 1))))) count
            ∙ ap (λ z. field_spans kinds f es ++ replicate (length (split kinds f e)) (span (length (field_rules kinds (suc f) es)) z)) more
            ∙ sym (spans-append (split kinds f) (split kinds (suc f)) 0 es (e ∷ [])
            ∙ ap (λ z. field_spans kinds f es ++ z) (append-nil (replicate (length (split kinds f e)) (span (0 + length (field_rules kinds (suc f) es)) (length (split kinds (suc f) e))))
            ∙ ap (λ z. replicate (length (split kinds f e)) (span z (length (split kinds (suc f) e)))) (zero-add (length (field_rules kinds (suc f) es)))));
      };
      ends =
          let top : length columns - 1 ≡ length kinds - 1 = ap (λ z. z - 1) b.one_each in
          let here : length kinds - 1 < length kinds = omega arith in
          let many = ap (λ z. length (of_field columns z)) top ∙ ap length (b.each (length kinds - 1) [] here).split in
          let make : ℕ → End = λ z. record { place = z; expiry = e.expiry } in
          a.ends
          ∙ ap (λ z. z ++ replicate (length (of_field columns (length columns - 1))) end) is.ends
          ∙ ap (λ z. last_ends kinds es ++ replicate z end) many
          ∙ ap (λ z. last_ends kinds es ++ replicate (length (split kinds (length kinds - 1) e)) z) last
          ∙ sym (ends-append (split kinds (length kinds - 1)) 0 es (e ∷ [])
          ∙ ap (λ z. last_ends kinds es ++ z) (append-nil (replicate (length (split kinds (length kinds - 1) e)) (make (0 + length es)))
          ∙ ap (λ z. replicate (length (split kinds (length kinds - 1) e)) (make z)) (zero-add (length es))));
    }

pub growth : (s : State) (old mid new : Index) (e : Element) (columns : List (List Block)) (others : List (Option FieldTable)) (end : End) → IsImage s.kinds s.elements old
    → parts_fit s.kinds e.parts ≡ true → Built (IsColumn s.kinds e.parts) columns (length s.kinds) → crowded_field s e.parts ≡ None
    → Built (λ f o. (t : FieldTable) → IsOther (length (of_field columns f)) (get_or old.fields f t) o) others (length old.fields)
    → IsSameIndex old mid → IsAppended mid new others columns end → end ≡ record { place = length s.elements; expiry = e.expiry } → IsImage s.kinds (s.elements ++ e ∷ []) new
growth s old mid new e columns others end i fit b room o k a last = record {
  some = i.some;
  few_kinds = i.few_kinds;
  fit = let P : Element → Type 0 = λ z. parts_fit s.kinds z.parts ≡ true in All-push P s.elements e i.fit fit;
  tables = index-grown s.kinds s.elements e old mid new columns others end i.some i.tables b o k a last;
  few_rules = λ f h.
      let r = room-left s e.parts f room h in
      let n = ap length (rules-more s.kinds f s.elements e) ∙ length-append (field_rules s.kinds f s.elements) (field_blocks s.kinds f e.parts) in
      omega arith;
}
