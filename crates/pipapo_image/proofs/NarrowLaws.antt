-- The rules of the last field that pass lead to each element that holds a key, or shares one.
use Rattle.std.proofs.Common.{◌≡◌, refl, sym, ◌∙◌, ap, subst, ℕ, suc, ◌+◌, ◌-◌, ◌<◌, ◌≤◌, Bool, true, false, ◌&&◌, List, [], ◌∷◌, length, Some, None, cond, arith}
use Rattle.std.specs.Prelude.{All, position, replicate, option_map}
use Rattle.std.specs.List.{list_any}
use Rattle.std.proofs.lemmas.Bool.{and_parts}
use Rattle.std.proofs.lemmas.List.Elements.{All-get_or, All-push}
use Rattle.set_model.specs.declared.kind.Kind.{Kind}
use Rattle.set_model.specs.declared.kind.Interval.{Interval}
use Rattle.set_model.specs.declared.element.Element.{Element}
use Rattle.set_model.specs.declared.block.Block.{Block}
use Rattle.set_model.specs.Expiry.{live}
use Rattle.set_model.specs.Key.{parts_fit}
use Rattle.set_model.specs.SetState.{State, answers, is_sharing, holds, element_at, field_rules}
use Rattle.set_tables.specs.Core.{hits, held, holds_at, passes_fields}
use Rattle.set_tables.specs.Rows.{matched}
use Rattle.set_tables.specs.Search.{key_tests}
use Rattle.set_tables.specs.Sharing.{share_tests}
use Rattle.set_tables.specs.Tables.{split}
use Rattle.set_tables.proofs.RowLaws.{marks-all, marks-matched, length-hits, position-cons}
use Rattle.set_tables.proofs.SearchLaws.{covers-field, held-all, row-led}
use Rattle.set_tables.proofs.SharingLaws.{led-shares}
use Rattle.set_tables.proofs.UpdateLaws.{length-ends}
use Rattle.expiry_scan.proofs.PlaceLaws.{no_element}
use Rattle.pipapo_image.specs.Image.Among.{LeadsTo}
use Rattle.pipapo_image.specs.Index.Narrow.{last_row}
use Rattle.pipapo_image.proofs.HitLaws.{last-hit}

-- the row after all rules of the last field are matched
pub last-matched : (kinds : List Kind) (es : List Element) (tests : ℕ → Block → Bool) (test : Block → Bool) (f n : ℕ) → f ≡ length kinds - 1 → test ≡ tests f → n ≡ length (field_rules kinds f es)
    → matched test (field_rules kinds f es) (replicate n true) ≡ last_row kinds es tests
last-matched kinds es tests test f n last t e =
    ap (λ z. matched z (field_rules kinds f es) (replicate n true)) t
    ∙ ap (λ k. matched (tests f) (field_rules kinds f es) (replicate k true)) e
    ∙ ap (matched (tests f) (field_rules kinds f es)) (marks-all (split kinds f) es)
    ∙ marks-matched (split kinds f) (λ e. true) (tests f) es
    ∙ ap (λ g. hits (split kinds g) (λ e. true) (tests g) es) last

-- such a row leads to each element whose interval passes in the last field
leads : (s : State) (test : Element → Bool) (tests : ℕ → Block → Bool) (row : List Bool) → row ≡ last_row s.kinds s.elements tests
    → ((k : ℕ) → k < length s.elements → test (element_at s k) ≡ true → list_any (tests (length s.kinds - 1)) (split s.kinds (length s.kinds - 1) (element_at s k)) ≡ true) → LeadsTo s test row
leads s test tests row is passes =
    let f = length s.kinds - 1 in
    subst (λ z. LeadsTo s test z) (sym is) (record {
      long = length-hits (split s.kinds f) (λ e. true) (tests f) s.elements ∙ sym (length-ends (split s.kinds f) 0 s.elements);
      each = λ k h e. last-hit s.kinds s.elements tests k no_element h (passes k h e);
    })

-- ---- by a key
holding-passes : (kinds : List Kind) (key : List ℕ) (now : ℕ) (e : Element) → 1 ≤ length kinds → length key ≡ length kinds → length e.parts ≡ length kinds → answers key now e ≡ true
    → list_any (key_tests key (length kinds - 1)) (split kinds (length kinds - 1) e) ≡ true
holding-passes kinds key now e some long parts h =
    let f = length kinds - 1 in
    let n : suc f ≡ length kinds = omega arith in
    let held_all : held key (suc f) e ≡ true = ap (λ z. held key z e) n ∙ held-all e key (length kinds) parts long ∙ (and_parts (live e now) (holds e key) h).1 in
    covers-field kinds key f e (omega arith) ∙ (and_parts (held key f e) (holds_at e key f) held_all).1

pub holding-leads : (s : State) (key : List ℕ) (now : ℕ) (row : List Bool) → 1 ≤ length s.kinds → length key ≡ length s.kinds → All (λ e. length e.parts ≡ length s.kinds) s.elements
    → row ≡ last_row s.kinds s.elements (key_tests key) → LeadsTo s (answers key now) row
holding-leads s key now row some long all is =
    leads s (answers key now) (key_tests key) row is
    (λ k h e. holding-passes s.kinds key now (element_at s k) some long (All-get_or (λ e. length e.parts ≡ length s.kinds) s.elements k no_element h all) e)

-- ---- by intervals
one-passes : (p : Element → Bool) (e : Element) → position p (e ∷ []) ≡ Some 0 → p e ≡ true
one-passes p e h = go (p e) refl where
  go : (b : Bool) → p e ≡ b → b ≡ true
  go true is = refl
  go false is =
      let none : position p (e ∷ []) ≡ None = position-cons p e [] ∙ ap (λ t. cond t (Some 0) (option_map (λ i. 1 + i) (position p []))) is in
      absurd (cc (none, h))

passes-one : (p : Element → Bool) (e : Element) → p e ≡ true → position p (e ∷ []) ≡ Some 0
passes-one p e h = position-cons p e [] ∙ ap (λ t. cond t (Some 0) (option_map (λ i. 1 + i) (position p []))) h

-- The walk through the tables of one element finds it if it shares a key. So it passes in each
-- field, also in the last.
sharing-passes : (kinds : List Kind) (parts : List Interval) (now : ℕ) (e : Element) → 1 ≤ length kinds → parts_fit kinds parts ≡ true → parts_fit kinds e.parts ≡ true → is_sharing parts now e ≡ true
    → list_any (share_tests kinds parts (length kinds - 1)) (split kinds (length kinds - 1) e) ≡ true
sharing-passes kinds parts now e some fit mine h =
    let f = length kinds - 1 in
    let tests = share_tests kinds parts in
    let P : Element → Type 0 = λ x. parts_fit kinds x.parts ≡ true in
    let nothing : All P [] = λ i d l. absurd (omega arith) in
    let found = sym (row-led kinds (e ∷ []) tests now) ∙ led-shares kinds (e ∷ []) parts now some fit (All-push P [] e nothing mine) ∙ passes-one (is_sharing parts now) e h in
    let passed : (live e now && passes_fields kinds tests (suc f) e) ≡ true = one-passes (λ x. live x now && passes_fields kinds tests (suc f) x) e found in
    let fields : (passes_fields kinds tests f e && list_any (tests f) (split kinds f e)) ≡ true = (and_parts (live e now) (passes_fields kinds tests (suc f) e) passed).1 in
    (and_parts (passes_fields kinds tests f e) (list_any (tests f) (split kinds f e)) fields).1

pub sharing-leads : (s : State) (parts : List Interval) (now : ℕ) (row : List Bool) → 1 ≤ length s.kinds → parts_fit s.kinds parts ≡ true → All (λ e. parts_fit s.kinds e.parts ≡ true) s.elements
    → row ≡ last_row s.kinds s.elements (share_tests s.kinds parts) → LeadsTo s (is_sharing parts now) row
sharing-leads s parts now row some fit all is =
    leads s (is_sharing parts now) (share_tests s.kinds parts) row is
    (λ k h e. sharing-passes s.kinds parts now (element_at s k) some fit (All-get_or (λ e. parts_fit s.kinds e.parts ≡ true) s.elements k no_element h all) e)
