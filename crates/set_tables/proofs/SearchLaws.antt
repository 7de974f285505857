-- The lookup in the tables of a list of elements finds the first element that is live and holds the
-- key.
use Rattle.std.proofs.Common.{◌≡◌, refl, sym, ◌∙◌, ap, ℕ, zero, suc, ◌+◌, ◌-◌, ◌<◌, ◌≤◌, Bool, true, false, ◌&&◌, List, [], ◌∷◌, ◌++◌, length, cond, map, Option, Some, None, arith, get_or, zero-add, length-append, flat_map}
use Rattle.std.specs.Prelude.{option_map, position, replicate, slice_index, slice_get, All}
use Rattle.std.proofs.Math.Bool.{and_assoc}
use Rattle.std.specs.List.{list_any}
use Rattle.std.proofs.lemmas.Option.{slice_get-get_or}
use Rattle.std.proofs.lemmas.List.FromFn.{length-map-range_with_len, get_or-map-range_with_len}
use Rattle.std.proofs.lemmas.List.Elements.{All-head, All-tail, All-append, All-replicate}
use Rattle.set_model.specs.declared.kind.Kind.{Kind}
use Rattle.set_model.specs.declared.kind.Kind.TheVariants.{Ipv4}
use Rattle.set_model.specs.declared.kind.Interval.{Interval}
use Rattle.set_model.specs.declared.element.Element.{Element}
use Rattle.set_model.specs.declared.block.Block.{Block}
use Rattle.set_model.specs.Kind.{bits_of}
use Rattle.set_model.specs.Expiry.{live}
use Rattle.set_model.specs.Blocks.{holds_value}
use Rattle.set_model.specs.Key.{contains, parts_hold}
use Rattle.set_model.specs.SetState.{holds, answers, field_rules, blocks_of, rules_limit}
use Rattle.set_tables.specs.declared.Span.{Span}
use Rattle.set_tables.specs.Core.{hits, held, holds_at, part_contains, passes_fields, row_of, key_row}
use Rattle.set_tables.specs.Rows.{matched, refilled, led_to}
use Rattle.set_tables.specs.Tables.{tables, split, spans, field_spans, last_ends}
use Rattle.set_tables.specs.Search.{of_field, key_tests, row_behind, searched, AreShaped}
use Rattle.set_tables.proofs.RowLaws.{marks-all, marks-matched, hits-refilled, hits-led, position-cons}
use Rattle.set_tables.proofs.UpdateLaws.{length-spans, length-ends}
use Rattle.set_tables.proofs.CoverLaw.{blocks-cover}

-- ---- a walk by any tests
pub row-first : (kinds : List Kind) (es : List Element) (tests : ℕ → Block → Bool)
    → matched (tests 0) (field_rules kinds 0 es) (replicate (length (field_rules kinds 0 es)) true) ≡ row_of kinds es tests 0
row-first kinds es tests = ap (matched (tests 0) (field_rules kinds 0 es)) (marks-all (split kinds 0) es) ∙ marks-matched (split kinds 0) (λ _. true) (tests 0) es

pub row-next : (kinds : List Kind) (es : List Element) (tests : ℕ → Block → Bool) (f : ℕ)
    → matched (tests (suc f)) (field_rules kinds (suc f) es) (refilled (field_spans kinds f es) (row_of kinds es tests f) (length (field_rules kinds (suc f) es)))
    ≡ row_of kinds es tests (suc f)
row-next kinds es tests f =
    ap (matched (tests (suc f)) (field_rules kinds (suc f) es)) (hits-refilled (split kinds f) (split kinds (suc f)) (passes_fields kinds tests f) (tests f) 0 es)
    ∙ marks-matched (split kinds (suc f)) (passes_fields kinds tests (suc f)) (tests (suc f)) es

pub rules-at : (kinds : List Kind) (es : List Element) (f : ℕ) → f < length kinds → of_field (tables kinds es).rules f ≡ field_rules kinds f es
rules-at kinds es f h = get_or-map-range_with_len (λ g. field_rules kinds g es) 0 (length kinds) f f [] h (zero-add f)

pub spans-at : (kinds : List Kind) (es : List Element) (f : ℕ) → f < length kinds - 1 → of_field (tables kinds es).maps f ≡ field_spans kinds f es
spans-at kinds es f h = get_or-map-range_with_len (λ g. field_spans kinds g es) 0 (length kinds - 1) f f [] h (zero-add f)

pub row-behind : (kinds : List Kind) (es : List Element) (tests : ℕ → Block → Bool) (f : ℕ) → f < length kinds
    → row_behind tests (tables kinds es).rules (tables kinds es).maps f ≡ row_of kinds es tests f
row-behind kinds es tests zero h = rw (rules-at kinds es 0 h) (row-first kinds es tests)
row-behind kinds es tests (suc f) h =
    rw (rules-at kinds es (suc f) h, spans-at kinds es f (omega arith), row-behind kinds es tests f (omega arith)) (row-next kinds es tests f)

-- ---- a walk by a key
covers-part : (kind : Kind) (v : ℕ) (part : Option Interval) → list_any (λ b. holds_value b v) (blocks_of (Some kind) part) ≡ part_contains v part
covers-part kind v None = refl
covers-part kind v (Some part) = blocks-cover part.low part.high (bits_of kind) v

-- some block of an element's interval holds the value exactly if the interval does
pub covers-field : (kinds : List Kind) (key : List ℕ) (f : ℕ) (e : Element) → f < length kinds → list_any (key_tests key f) (split kinds f e) ≡ holds_at e key f
covers-field kinds key f e h =
    ap (λ k. list_any (key_tests key f) (blocks_of k (slice_get e.parts f))) (slice_get-get_or kinds f Ipv4 h)
    ∙ covers-part (get_or kinds f Ipv4) (slice_index key f) (slice_get e.parts f)

pub passed-held : (kinds : List Kind) (key : List ℕ) (f : ℕ) (e : Element) → f ≤ length kinds → passes_fields kinds (key_tests key) f e ≡ held key f e
passed-held kinds key zero e h = refl
passed-held kinds key (suc f) e h =
    ap (λ z. z && list_any (key_tests key f) (split kinds f e)) (passed-held kinds key f e (omega arith)) ∙ ap (λ z. held key f e && z) (covers-field kinds key f e (omega arith))

hits-same : (here : Element → List Block) (mark other : Element → Bool) (test : Block → Bool) (es : List Element) → ((e : Element) → mark e ≡ other e)
    → hits here mark test es ≡ hits here other test es
hits-same here mark other test [] h = refl
hits-same here mark other test (e ∷ es) h = rw (h e) (ap (λ z. map (λ b. other e && test b) (here e) ++ z) (hits-same here mark other test es h))

-- the law of the core, with the tests of the key
pub row-core : (kinds : List Kind) (es : List Element) (key : List ℕ) (f : ℕ) → f < length kinds → row_of kinds es (key_tests key) f ≡ key_row kinds es key f
row-core kinds es key f h = hits-same (split kinds f) (passes_fields kinds (key_tests key) f) (held key f) (key_tests key f) es (λ e. passed-held kinds key f e (omega arith))

pub core-behind : (kinds : List Kind) (es : List Element) (key : List ℕ) (f : ℕ) → f < length kinds
    → row_behind (key_tests key) (tables kinds es).rules (tables kinds es).maps f ≡ key_row kinds es key f
core-behind kinds es key f h = row-behind kinds es (key_tests key) f h ∙ row-core kinds es key f h

-- ---- all fields
holds-first : (p : Interval) (parts : List Interval) (v : ℕ) (key : List ℕ) (i : ℕ) (x : Option ℕ) (c : List ℕ) (f : ℕ)
    → held (v ∷ key) (suc f) (record { id = i; parts = p ∷ parts; expiry = x; comment = c })
    ≡ (contains p v && held key f (record { id = i; parts = parts; expiry = x; comment = c }))
holds-first p parts v key i x c zero = and-true (contains p v) where
  and-true : (t : Bool) → t ≡ (t && true)
  and-true true = refl
  and-true false = refl
holds-first p parts v key i x c (suc f) =
    let e : Element = record { id = i; parts = parts; expiry = x; comment = c } in
    ap (λ z. z && holds_at e key f) (holds-first p parts v key i x c f) ∙ and_assoc (contains p v) (held key f e) (holds_at e key f)

holds-all : (parts : List Interval) (key : List ℕ) (i : ℕ) (x : Option ℕ) (c : List ℕ) → length key ≡ length parts
    → held key (length parts) (record { id = i; parts = parts; expiry = x; comment = c }) ≡ parts_hold parts key
holds-all [] [] i x c h = refl
holds-all [] (v ∷ key) i x c h = absurd (cc h)
holds-all (p ∷ parts) [] i x c h = absurd (cc h)
holds-all (p ∷ parts) (v ∷ key) i x c h =
    let e : length key ≡ length parts = omega arith in
    holds-first p parts v key i x c (length parts) ∙ ap (λ z. contains p v && z) (holds-all parts key i x c e)

pub held-all : (e : Element) (key : List ℕ) (n : ℕ) → length e.parts ≡ n → length key ≡ n → held key n e ≡ holds e key
held-all e key n a b = ap (λ z. held key z e) (sym a) ∙ holds-all e.parts key e.id e.expiry e.comment (b ∙ sym a)

pub position-same : {X : Type 0} (p q : X → Bool) (xs : List X) → All (λ x. p x ≡ q x) xs → position p xs ≡ position q xs
position-same p q [] h = refl
position-same {X} p q (x ∷ xs) h =
    let P : X → Type 0 = λ y. p y ≡ q y in
    position-cons p x xs ∙ ap (λ t. cond t (Some 0) (option_map (λ i. 1 + i) (position p xs))) (All-head P x xs h)
    ∙ ap (λ o. cond (q x) (Some 0) (option_map (λ i. 1 + i) o)) (position-same p q xs (All-tail P x xs h))
    ∙ sym (position-cons q x xs)

option-id : (o : Option ℕ) → option_map (λ k. 0 + k) o ≡ o
option-id None = refl
option-id (Some k) = ap Some (zero-add k)

-- a walk leads to the first live element that passed all fields
pub row-led : (kinds : List Kind) (es : List Element) (tests : ℕ → Block → Bool) (now : ℕ)
    → led_to (last_ends kinds es) (row_of kinds es tests (length kinds - 1)) now ≡ position (λ e. live e now && passes_fields kinds tests (suc (length kinds - 1)) e) es
row-led kinds es tests now =
    hits-led (split kinds (length kinds - 1)) (passes_fields kinds tests (length kinds - 1)) (tests (length kinds - 1)) now 0 es ∙ option-id _

pub search-passed : (kinds : List Kind) (es : List Element) (tests : ℕ → Block → Bool) (now : ℕ) → 1 ≤ length kinds
    → searched tests (tables kinds es) now ≡ position (λ e. live e now && passes_fields kinds tests (suc (length kinds - 1)) e) es
search-passed kinds es tests now h =
    let n : length (tables kinds es).rules ≡ length kinds = length-map-range_with_len (λ f. field_rules kinds f es) 0 (length kinds) in
    ap (λ z. led_to (last_ends kinds es) (row_behind tests (tables kinds es).rules (tables kinds es).maps (z - 1)) now) n
    ∙ ap (λ row. led_to (last_ends kinds es) row now) (row-behind kinds es tests (length kinds - 1) (omega arith))
    ∙ row-led kinds es tests now

passed-holds : (kinds : List Kind) (key : List ℕ) (now : ℕ) (e : Element) → 1 ≤ length kinds → length key ≡ length kinds → length e.parts ≡ length kinds
    → (live e now && passes_fields kinds (key_tests key) (suc (length kinds - 1)) e) ≡ answers key now e
passed-holds kinds key now e h k l =
    let n : suc (length kinds - 1) ≡ length kinds = omega arith in
    ap (λ z. live e now && passes_fields kinds (key_tests key) z e) n
    ∙ ap (λ z. live e now && z) (passed-held kinds key (length kinds) e (omega arith) ∙ held-all e key (length kinds) l k)

pub search-finds : (kinds : List Kind) (es : List Element) (key : List ℕ) (now : ℕ) → 1 ≤ length kinds → length key ≡ length kinds → All (λ e. length e.parts ≡ length kinds) es
    → searched (key_tests key) (tables kinds es) now ≡ position (answers key now) es
search-finds kinds es key now h k all =
    search-passed kinds es (key_tests key) now h ∙ position-same _ _ es (λ i d l. passed-holds kinds key now (get_or es i d) h k (all i d l))

-- ---- the shape
pub spans-inside : (here next : Element → List Block) (from top : ℕ) (es : List Element) → from + length (flat_map next es) ≤ top
    → All (λ s. s.first + s.count ≤ top) (spans here next from es)
spans-inside here next from top [] h = λ k d l. absurd (omega arith)
spans-inside here next from top (e ∷ es) h =
    let n = length-append (next e) (flat_map next es) in
    let P : Span → Type 0 = λ s. s.first + s.count ≤ top in
    let low : from + length (next e) ≤ top = omega arith in
    All-append P (replicate (length (here e)) (record { first = from; count = length (next e) })) (spans here next (from + length (next e)) es)
    (All-replicate P (length (here e)) (record { first = from; count = length (next e) }) low)
    (spans-inside here next (from + length (next e)) top es (omega arith))

pub tables-shaped : (kinds : List Kind) (es : List Element) → 1 ≤ length kinds → ((f : ℕ) → f < length kinds → length (field_rules kinds f es) ≤ rules_limit)
    → AreShaped (tables kinds es)
tables-shaped kinds es h few =
    let n : length (tables kinds es).rules ≡ length kinds = length-map-range_with_len (λ f. field_rules kinds f es) 0 (length kinds) in
    let m : length (tables kinds es).maps ≡ length kinds - 1 = length-map-range_with_len (λ f. field_spans kinds f es) 0 (length kinds - 1) in
    record {
      one_fewer = omega arith;
      one_each = λ f l.
          let i : f < length kinds - 1 = omega arith in
          let j : f < length kinds = omega arith in
          rw (spans-at kinds es f i, rules-at kinds es f j) (length-spans (split kinds f) (split kinds (suc f)) 0 es);
      inside = λ f l.
          let i : f < length kinds - 1 = omega arith in
          let j : suc f < length kinds = omega arith in
          rw (spans-at kinds es f i, rules-at kinds es (suc f) j) (spans-inside (split kinds f) (split kinds (suc f)) 0 (length (field_rules kinds (suc f) es)) es (omega arith));
      few = λ f l.
          let j : f < length kinds = omega arith in
          rw (rules-at kinds es f j) (few f j);
      one_end_each =
          let j : length kinds - 1 < length kinds = omega arith in
          rw (n, rules-at kinds es (length kinds - 1) j) (length-ends (split kinds (length kinds - 1)) 0 es);
    }

-- from the row after the last field
pub led-finds : (kinds : List Kind) (es : List Element) (key : List ℕ) (now : ℕ) → 1 ≤ length kinds → length key ≡ length kinds → All (λ e. length e.parts ≡ length kinds) es
    → led_to (last_ends kinds es) (row_of kinds es (key_tests key) (length kinds - 1)) now ≡ position (answers key now) es
led-finds kinds es key now h k all =
    row-led kinds es (key_tests key) now ∙ position-same _ _ es (λ i d l. passed-holds kinds key now (get_or es i d) h k (all i d l))
