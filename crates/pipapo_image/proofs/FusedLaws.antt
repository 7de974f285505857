-- One field further in a fused walk.
use Rattle.std.proofs.Common.{◌≡◌, refl, sym, ◌∙◌, ap, subst, ℕ, zero, suc, ◌+◌, ◌<◌, ◌≤◌, ◌⊎◌, inl, inr, Bool, true, false, List, length, get_or, Option, ◌&&◌, arith}
use Rattle.std.specs.Prelude.{All, replicate, slice_index, nat_le}
use Rattle.std.specs.List.{list_all}
use Rattle.std.proofs.lemmas.Bool.{cases_lt, lt-leb}
use Rattle.std.proofs.lemmas.List.{ext_get_or}
use Rattle.std.proofs.lemmas.List.Folds.{list_all_at}
use Rattle.std.proofs.lemmas.List.FromFn.{get_or-map-range_with_len}
use Rattle.std.proofs.lemmas.List.Elements.{All-weaker}
use Rattle.bit_rows.specs.Row.{at}
use Rattle.set_model.specs.declared.block.Block.{Block}
use Rattle.set_model.specs.declared.kind.Kind.{Kind}
use Rattle.set_model.specs.declared.element.Element.{Element}
use Rattle.set_model.specs.Blocks.{holds_value}
use Rattle.set_model.specs.SetState.{field_rules, rules_limit}
use Rattle.lookup_table.specs.declared.table.FieldTable.{FieldTable}
use Rattle.lookup_table.specs.Rules.{Stands}
use Rattle.lookup_table.specs.Table.{block_at}
use Rattle.mapping_table.specs.Spared.{Spared}
use Rattle.set_tables.specs.declared.Span.{Span}
use Rattle.set_tables.specs.declared.End.{End}
use Rattle.set_tables.specs.Rows.{matched, reached, refilled, led_to}
use Rattle.set_tables.specs.Core.{row_of}
use Rattle.set_tables.specs.Tables.{field_spans}
use Rattle.set_tables.specs.Search.{key_tests}
use Rattle.set_tables.proofs.RowLaws.{length-refilled}
use Rattle.fused_lookup.specs.Filled.{Refills}
use Rattle.fused_lookup.specs.Led.{Leads}
use Rattle.fused_lookup.proofs.MatchLaws.{length-left, left-at}
use Rattle.pipapo_image.specs.Index.Walk.{IsWalk, AreSmall}
use Rattle.pipapo_image.proofs.Items.{a-table}
use Rattle.pipapo_image.proofs.WalkLaws.{first-row, next-row}

pub zeros-at : (n i : ℕ) → at (replicate n false) i ≡ false
zeros-at zero i = refl
zeros-at (suc n) zero = refl
zeros-at (suc n) (suc i) = zeros-at n i

refilled-at : (spans : List Span) (row : List Bool) (n i : ℕ) → i < n → at (refilled spans row n) i ≡ reached spans row i
refilled-at spans row n i h = get_or-map-range_with_len (reached spans row) 0 n i i false h (omega arith)

-- A match of a longer row leaves the same rules.
matched-front : (test : Block → Bool) (blocks : List Block) (spans : List Span) (row : List Bool) (n m : ℕ) → length blocks ≡ n → n ≤ m
    → matched test blocks (refilled spans row m) ≡ matched test blocks (refilled spans row n)
matched-front test blocks spans row n m count room =
    let long = length-refilled spans row m in
    let short = length-refilled spans row n in
    let a : length blocks ≤ length (refilled spans row m) = omega arith in
    let b : length blocks ≤ length (refilled spans row n) = omega arith in
    ext_get_or false (matched test blocks (refilled spans row m)) (matched test blocks (refilled spans row n)) (length-left test blocks (refilled spans row m) a ∙ sym (length-left test blocks (refilled spans row n) b))
    (λ i h.
    let l = length-left test blocks (refilled spans row m) a in
    let inside : i < length blocks = omega arith in
    let low : i < n = omega arith in
    let high : i < m = omega arith in
    left-at test blocks (refilled spans row m) i a inside
    ∙ ap (λ t. t && test (block_at blocks i)) (refilled-at spans row m i high ∙ sym (refilled-at spans row n i low))
    ∙ sym (left-at test blocks (refilled spans row n) i b inside))

-- the spans of field f are within a row of the most rules
pub inside-limit : (fields : List FieldTable) (maps : List (Spared Span)) (f n : ℕ) (m : Spared Span) (spans : List Span) → IsWalk fields maps → f < length maps → m ≡ get_or maps f m → spans ≡ m.items
    → n ≡ rules_limit → All (λ s. s.first + s.count ≤ n) spans
inside-limit fields maps f n m spans w h me se e =
    let some : 0 < length fields = omega (arith, w.one_fewer) in
    let t = a-table fields some in
    let g : f + 1 < length fields = omega (arith, w.one_fewer) in
    let few = w.few (f + 1) t g in
    let P : Span → Type 0 = λ s. s.first + s.count ≤ (get_or fields (f + 1) t).rules in
    let Q : Span → Type 0 = λ s. s.first + s.count ≤ n in
    let a : All Q (get_or maps f m).items = All-weaker P Q (λ s k. omega arith) (get_or maps f m).items (w.inside f t m h) in
    subst (λ z. All Q z) (sym (se ∙ ap (λ z. z.items) me)) a

-- the spans of field f are within a small row
pub inside-small : (fields : List FieldTable) (maps : List (Spared Span)) (f : ℕ) (m : Spared Span) → IsWalk fields maps → AreSmall fields → f < length maps → m ≡ get_or maps f m → All (λ s. s.first + s.count ≤ 128) m.items
inside-small fields maps f m w small h me =
    let some : 0 < length fields = omega (arith, w.one_fewer) in
    let t = a-table fields some in
    let g : f + 1 < length fields = omega (arith, w.one_fewer) in
    let few = small.few (f + 1) t g in
    let P : Span → Type 0 = λ s. s.first + s.count ≤ (get_or fields (f + 1) t).rules in
    let Q : Span → Type 0 = λ s. s.first + s.count ≤ 128 in
    let a : All Q (get_or maps f m).items = All-weaker P Q (λ s k. omega arith) (get_or maps f m).items (w.inside f t m h) in
    subst (λ z. All Q z) (sym (ap (λ z. z.items) me)) a

-- the test that no field has more than 128 rules
pub are-small : (fields : List FieldTable) → list_all (λ t. nat_le t.rules 128) fields ≡ true → AreSmall fields
are-small fields all = record { few = λ f t h. go f t h (cases_lt 128 (get_or fields f t).rules) } where
  go : (f : ℕ) (t : FieldTable) → f < length fields → (128 < (get_or fields f t).rules) ⊎ ((get_or fields f t).rules ≤ 128) → (get_or fields f t).rules ≤ 128
  go f t h (inl l) = let e : false ≡ true = sym (list_all_at (λ z. nat_le z.rules 128) fields f t h (lt-leb (get_or fields f t).rules 128 l)) ∙ all in absurd (cc e)
  go f t h (inr l) = l

-- what the first field's rules reach
pub fused-first : (kinds : List Kind) (es : List Element) (key : List ℕ) (t : FieldTable) (spans : List Span) (next : List Bool) → Stands t (field_rules kinds 0 es) → spans ≡ field_spans kinds 0 es
    → Refills t spans (λ b. holds_value b (slice_index key 0)) (replicate t.rules true) next → next ≡ refilled (field_spans kinds 0 es) (row_of kinds es (key_tests key) 0) (length next)
fused-first kinds es key t spans next stands same refills =
    refills (field_rules kinds 0 es) stands
    ∙ ap (λ z. refilled z (matched (λ b. holds_value b (slice_index key 0)) (field_rules kinds 0 es) (replicate t.rules true)) (length next)) same
    ∙ ap (λ z. refilled (field_spans kinds 0 es) z (length next)) (first-row kinds es key t.rules (sym stands.one_each))

-- the rules of field f that a match leaves of a row that the field before it reaches
left-next : (kinds : List Kind) (es : List Element) (key : List ℕ) (g f : ℕ) (row : List Bool) → f ≡ g + 1 → length (field_rules kinds f es) ≤ length row
    → row ≡ refilled (field_spans kinds g es) (row_of kinds es (key_tests key) g) (length row)
    → matched (λ b. holds_value b (slice_index key f)) (field_rules kinds f es) row ≡ row_of kinds es (key_tests key) f
left-next kinds es key g f row e =
    subst
    (λ z. length (field_rules kinds z es) ≤ length row → row ≡ refilled (field_spans kinds g es) (row_of kinds es (key_tests key) g) (length row)
    → matched (λ b. holds_value b (slice_index key z)) (field_rules kinds z es) row ≡ row_of kinds es (key_tests key) z)
    (sym e)
    (λ room is.
    ap (matched (λ b. holds_value b (slice_index key (g + 1))) (field_rules kinds (g + 1) es)) is
    ∙ matched-front (λ b. holds_value b (slice_index key (g + 1))) (field_rules kinds (g + 1) es) (field_spans kinds g es) (row_of kinds es (key_tests key) g) (length (field_rules kinds (g + 1) es)) (length row) refl room
    ∙ next-row kinds es key g (length (field_rules kinds (g + 1) es)) (field_spans kinds g es) (row_of kinds es (key_tests key) g) refl refl refl)

-- what the rules of field f that are left reach
pub fused-next : (kinds : List Kind) (es : List Element) (key : List ℕ) (g f : ℕ) (t : FieldTable) (spans : List Span) (row next : List Bool) → f ≡ g + 1 → Stands t (field_rules kinds f es) → t.rules ≤ length row
    → spans ≡ field_spans kinds f es → row ≡ refilled (field_spans kinds g es) (row_of kinds es (key_tests key) g) (length row)
    → Refills t spans (λ b. holds_value b (slice_index key f)) row next → next ≡ refilled (field_spans kinds f es) (row_of kinds es (key_tests key) f) (length next)
fused-next kinds es key g f t spans row next e stands room same is refills =
    let n = stands.one_each in
    refills (field_rules kinds f es) stands
    ∙ ap (λ z. refilled z (matched (λ b. holds_value b (slice_index key f)) (field_rules kinds f es) row) (length next)) same
    ∙ ap (λ z. refilled (field_spans kinds f es) z (length next)) (left-next kinds es key g f row e (omega arith) is)

-- what the rules of the last field that are left lead to
pub fused-led : (kinds : List Kind) (es : List Element) (key : List ℕ) (g f now : ℕ) (t : FieldTable) (ends : List End) (row : List Bool) (found : Option ℕ) → f ≡ g + 1 → Stands t (field_rules kinds f es)
    → t.rules ≤ length row → row ≡ refilled (field_spans kinds g es) (row_of kinds es (key_tests key) g) (length row)
    → Leads t ends (λ b. holds_value b (slice_index key f)) row now found → found ≡ led_to ends (row_of kinds es (key_tests key) f) now
fused-led kinds es key g f now t ends row found e stands room is leads =
    let n = stands.one_each in
    leads (field_rules kinds f es) stands ∙ ap (λ z. led_to ends z now) (left-next kinds es key g f row e (omega arith) is)

pub fused-led-first : (kinds : List Kind) (es : List Element) (key : List ℕ) (now : ℕ) (t : FieldTable) (ends : List End) (found : Option ℕ) → Stands t (field_rules kinds 0 es)
    → Leads t ends (λ b. holds_value b (slice_index key 0)) (replicate t.rules true) now found → found ≡ led_to ends (row_of kinds es (key_tests key) 0) now
fused-led-first kinds es key now t ends found stands leads =
    leads (field_rules kinds 0 es) stands ∙ ap (λ z. led_to ends z now) (first-row kinds es key t.rules (sym stands.one_each))
