-- The buckets of a table with some rules are the rules' bitmaps. An index leads to where its elements' rules lead.
use Rattle.std.proofs.Common.{◌≡◌, refl, sym, ◌∙◌, ap, subst, ℕ, zero, suc, ◌+◌, ◌/◌, ◌^◌, ◌<◌, ◌≤◌, false, cond, List, [], ◌∷◌, ◌++◌, length, get_or, map, flat_map, slice_get, Some, None, drop, zip, arith}
use Rattle.std.specs.List.{range_with_len, enumerate_from}
use Rattle.std.proofs.lemmas.Bool.{eq-eqb, ne_eqb}
use Rattle.std.proofs.lemmas.List.{ext_get_or, get_or-map, length-map, drop_more}
use Rattle.std.proofs.lemmas.List.Elements.{All-get_or}
use Rattle.std.proofs.lemmas.Option.{get_or_from_slice_get}
use Rattle.bit_rows.specs.Row.{at}
use Rattle.field_groups.specs.Groups.{agrees}
use Rattle.lookup_table.specs.declared.table.FieldTable.{FieldTable}
use Rattle.lookup_table.specs.Table.{bucket_place, cell}
use Rattle.lookup_table.specs.Rules.{Stands}
use Rattle.lookup_table.specs.Width.{width_of}
use Rattle.lookup_table.proofs.RuleLaws.{place-within}
use Rattle.mapping_table.specs.Spared.{Spared}
use Rattle.pipapo_image.specs.declared.index.Index.{Index}
use Rattle.pipapo_image.specs.Index.{IsIndexOf}
use Rattle.pipapo_image.specs.Index.Standing.{IsTableOf}
use Rattle.set_model.specs.declared.block.Block.{Block}
use Rattle.set_model.specs.declared.element.Element.{Element}
use Rattle.set_model.specs.declared.kind.Kind.{Kind}
use Rattle.set_model.specs.Kind.{bits_of}
use Rattle.set_model.specs.SetState.{field_rules}
use Rattle.set_tables.specs.declared.Span.{Span}
use Rattle.set_tables.specs.Tables.{field_spans, last_ends}
use Rattle.set_report.specs.DumpText.{bitmaps, runs_from, runs_text, groups_text, span_text, end_text, heading_text, table_text, ways_text, field_text}
use Rattle.set_report.specs.DumpBuckets.{bits_at, bitmaps_at, buckets_text, all_buckets_text}

-- ---- what is the same at each number

pub map-same : {X : Type 0} (f g : ℕ → X) (a n : ℕ) → ((k : ℕ) → a ≤ k → k < a + n → f k ≡ g k) → map f (range_with_len a n) ≡ map g (range_with_len a n)
map-same f g a zero same = refl
map-same f g a (suc n) same = ap (λ x. x ∷ map f (range_with_len (a + 1) n)) (same a (omega arith) (omega arith)) ∙ ap (λ xs. g a ∷ xs) (map-same f g (a + 1) n (λ k h l. same k (omega arith) (omega arith)))

texts-same : (f g : ℕ → List ℕ) (a n : ℕ) → ((k : ℕ) → a ≤ k → k < a + n → f k ≡ g k) → flat_map f (range_with_len a n) ≡ flat_map g (range_with_len a n)
texts-same f g a zero same = refl
texts-same f g a (suc n) same = ap (λ x. x ++ flat_map f (range_with_len (a + 1) n)) (same a (omega arith) (omega arith)) ∙ ap (λ xs. g a ++ xs) (texts-same f g (a + 1) n (λ k h l. same k (omega arith) (omega arith)))

-- ---- the buckets of a table

module _ (t : FieldTable) (rules : List Block) (stands : Stands t rules) where
  bucket-bits : (g v : ℕ) → g < t.bits / t.width → v < 2 ^ t.width → bits_at t.buckets.rows (bucket_place t.width g v) ≡ map (λ rule. agrees t.width t.bits rule g v) rules
  unfolding cell
  bucket-bits g v h k =
      let place = bucket_place t.width g v in
      let inside : place < length t.buckets.rows = place-within t.width t.bits t.rules g v t.buckets.rows t.shaped h k in
      let long : length (bits_at t.buckets.rows place) ≡ t.rules = All-get_or (λ row. length row.bits ≡ t.rules) t.buckets.rows place _ inside t.shaped.rows in
      ext_get_or false (bits_at t.buckets.rows place) (map (λ rule. agrees t.width t.bits rule g v) rules)
      (long ∙ sym stands.one_each ∙ sym (length-map rules (λ rule. agrees t.width t.bits rule g v)))
      (λ r l.
      let below : r < t.rules = omega (arith, long) in
      let listed : r < length rules = omega (arith, stands.one_each) in
      stands.bucket g v r h k below ∙ sym (get_or-map (λ rule. agrees t.width t.bits rule g v) rules r _ false listed))

  group-bits : (g : ℕ) → g < t.bits / t.width → bitmaps_at t.buckets.rows (bucket_place t.width g 0) 0 (2 ^ t.width) ≡ bitmaps t.width t.bits rules g
  group-bits g h = map-same (λ w. bits_at t.buckets.rows (bucket_place t.width g 0 + w)) (λ v. map (λ rule. agrees t.width t.bits rule g v) rules) 0 (2 ^ t.width) (λ v l k.
      let place : bucket_place t.width g 0 + v ≡ bucket_place t.width g v = omega arith in
      ap (bits_at t.buckets.rows) place ∙ bucket-bits g v h (omega arith))

  pub groups-are : all_buckets_text t ≡ groups_text t.width t.bits rules
  groups-are = texts-same (buckets_text t) (λ g. runs_text g (runs_from 0 (bitmaps t.width t.bits rules g))) 0 (t.bits / t.width) (λ g l k. ap (λ bs. runs_text g (runs_from 0 bs)) (group-bits g (omega arith)))

-- the lines of a field's table
pub table-is : (f : ℕ) (kind : Kind) (rules : List Block) (t : FieldTable) → IsTableOf kind rules t → heading_text f kind t.width t.rules ++ all_buckets_text t ≡ table_text f kind rules
table-is f kind rules t is =
    ap (λ n. heading_text f kind t.width n ++ all_buckets_text t) (sym is.stands.one_each)
    ∙ ap (λ text. heading_text f kind t.width (length rules) ++ text) (groups-are t rules is.stands)
    ∙ ap (λ w. heading_text f kind w (length rules) ++ groups_text w t.bits rules) is.width
    ∙ ap (λ b. heading_text f kind (width_of (bits_of kind) (length rules)) (length rules) ++ groups_text (width_of (bits_of kind) (length rules)) b rules) is.bits

-- ---- where rules lead

module _ (kinds : List Kind) (es : List Element) (f : ℕ) where
  pub ways-inner : f + 1 < length kinds → ways_text kinds es f ≡ flat_map span_text (field_spans kinds f es)
  ways-inner h =
      let other : f + 1 ≡ length kinds → ⊥ = λ e. omega arith in
      ap (λ t. cond t (flat_map end_text (last_ends kinds es)) (flat_map span_text (field_spans kinds f es))) (ne_eqb (f + 1) (length kinds) other)

  pub ways-last : f + 1 ≡ length kinds → ways_text kinds es f ≡ flat_map end_text (last_ends kinds es)
  ways-last e = ap (λ t. cond t (flat_map end_text (last_ends kinds es)) (flat_map span_text (field_spans kinds f es))) (eq-eqb (f + 1) (length kinds) e)

pub inner-ways : (kinds : List Kind) (es : List Element) (index : Index) (f : ℕ) (m : Spared Span) → IsIndexOf kinds es index → f < length index.maps → slice_get index.maps f ≡ Some m
    → flat_map span_text m.items ≡ ways_text kinds es f
inner-ways kinds es index f m i h at =
    ap (λ (n : Spared Span). flat_map span_text n.items) (sym (get_or_from_slice_get index.maps f m m at))
    ∙ ap (flat_map span_text) (i.maps.each f m h)
    ∙ sym (ways-inner kinds es f (omega (arith, i.maps.one_fewer)))

pub last-ways : (kinds : List Kind) (es : List Element) (index : Index) (f : ℕ) → IsIndexOf kinds es index → f < length kinds → length index.maps ≤ f
    → flat_map end_text index.ends.items ≡ ways_text kinds es f
last-ways kinds es index f i h l = ap (flat_map end_text) i.ends ∙ sym (ways-last kinds es f (omega (arith, i.maps.one_fewer)))

within : {X : Type 0} (xs : List X) (i : ℕ) (x : X) → slice_get xs i ≡ Some x → i < length xs
within [] i x e = let n : None ≡ Some x = e in cc
within (y ∷ xs) zero x e = omega arith
within (y ∷ xs) (suc i) x e = let h = within xs i x e in omega arith

-- field f has the table of its rules, and leads to where they lead
pub field-is : (kinds : List Kind) (es : List Element) (index : Index) (f : ℕ) (kind : Kind) (t : FieldTable) → IsIndexOf kinds es index → slice_get kinds f ≡ Some kind → slice_get index.fields f ≡ Some t
    → (heading_text f kind t.width t.rules ++ all_buckets_text t) ++ ways_text kinds es f ≡ field_text kinds es (f, kind)
field-is kinds es index f kind t i at there =
    let k : get_or kinds f kind ≡ kind = get_or_from_slice_get kinds f kind kind at in
    let u : get_or index.fields f t ≡ t = get_or_from_slice_get index.fields f t t there in
    let is : IsTableOf (get_or kinds f kind) (field_rules kinds f es) (get_or index.fields f t) = i.fields.each f kind t (within kinds f kind at) in
    ap (λ text. text ++ ways_text kinds es f) (table-is f kind (field_rules kinds f es) t (subst (λ (z : Kind). IsTableOf z (field_rules kinds f es) t) k (subst (λ (z : FieldTable). IsTableOf (get_or kinds f kind) (field_rules kinds f es) z) u is)))

pub kind-within : (kinds : List Kind) (f : ℕ) (kind : Kind) → slice_get kinds f ≡ Some kind → f < length kinds
kind-within kinds f kind at = within kinds f kind at

-- ---- what is left of a list

-- of items with their numbers
pub numbered-more : {X : Type 0} (g : ℕ × X → List ℕ) (xs : List X) (i : ℕ) (x : X) → slice_get xs i ≡ Some x
    → flat_map g (enumerate_from i (drop i xs)) ≡ g (i, x) ++ flat_map g (enumerate_from (i + 1) (drop (i + 1) xs))
numbered-more g xs i x at =
    ap (λ ys. flat_map g (enumerate_from i ys)) (drop_more xs i x (within xs i x at))
    ∙ ap (λ y. g (i, y) ++ flat_map g (enumerate_from (i + 1) (drop (i + 1) xs))) (get_or_from_slice_get xs i x x at)

-- of two lists side by side
pub paired-more : {X Y : Type 0} (g : X × Y → List ℕ) (xs : List X) (ys : List Y) (i : ℕ) (x : X) (y : Y) → slice_get xs i ≡ Some x → slice_get ys i ≡ Some y
    → flat_map g (zip (drop i xs) (drop i ys)) ≡ g (x, y) ++ flat_map g (zip (drop (i + 1) xs) (drop (i + 1) ys))
paired-more g xs ys i x y at there =
    ap (λ zs. flat_map g (zip zs (drop i ys))) (drop_more xs i x (within xs i x at))
    ∙ ap (λ zs. flat_map g (zip (get_or xs i x ∷ drop (i + 1) xs) zs)) (drop_more ys i y (within ys i y there))
    ∙ ap (λ z. g (z, get_or ys i y) ++ flat_map g (zip (drop (i + 1) xs) (drop (i + 1) ys))) (get_or_from_slice_get xs i x x at)
    ∙ ap (λ z. g (x, z) ++ flat_map g (zip (drop (i + 1) xs) (drop (i + 1) ys))) (get_or_from_slice_get ys i y y there)
