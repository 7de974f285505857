-- An image without an element is an image.
use Rattle.std.proofs.Common.{◌≡◌, refl, sym, ◌∙◌, ap, subst, ℕ, suc, ◌+◌, ◌-◌, ◌<◌, ◌≤◌, true, List, length, take, drop, get_or, Option, Some, None, arith, length-append}
use Rattle.std.specs.Prelude.{All, remove, option_map}
use Rattle.std.proofs.lemmas.List.{length-take-le, length-drop}
use Rattle.std.proofs.lemmas.List.Elements.{All-append, All-take, All-drop}
use Rattle.lookup_table.specs.declared.table.FieldTable.{FieldTable}
use Rattle.lookup_table.specs.Rules.{IsOwn}
use Rattle.lookup_table.specs.Width.{width_of}
use Rattle.set_model.specs.declared.block.Block.{Block}
use Rattle.set_model.specs.declared.kind.Kind.{Kind}
use Rattle.set_model.specs.declared.element.Element.{Element}
use Rattle.set_model.specs.Kind.{bits_of}
use Rattle.set_model.specs.Key.{parts_fit}
use Rattle.set_model.specs.declared.kind.Interval.{Interval}
use Rattle.set_model.specs.SetState.{State, field_rules, element_at, exact_place, removed, without_at}
use Rattle.set_model.specs.Runs.{without_run}
use Rattle.set_tables.specs.declared.Span.{Span}
use Rattle.set_tables.specs.Rows.{spans_without, ends_without}
use Rattle.set_tables.specs.Tables.{split, field_spans, last_ends}
use Rattle.set_tables.proofs.UpdateLaws.{rules-without, spans-without, ends-without, spans-later, ends-later}
use Rattle.expiry_scan.proofs.PlaceLaws.{no_element}
use Rattle.pipapo_image.specs.declared.index.Index.{Index}
use Rattle.pipapo_image.specs.Index.Grow.{chosen}
use Rattle.pipapo_image.specs.Index.Standing.{IsTableOf}
use Rattle.pipapo_image.specs.Index.{IsIndexOf}
use Rattle.pipapo_image.specs.Image.{IsImage}
use Rattle.pipapo_image.specs.Index.Runs.{IsElementRun, AreRuns, run_at}
use Rattle.pipapo_image.specs.Index.Shrink.{IsOtherWithout, AreOthersWithout, IsShrunk, OwnsRuns, IsDroppable, IsDropped}
use Rattle.pipapo_image.proofs.ImageUse.{field-rules}
use Rattle.pipapo_image.proofs.ShapeLaws.{image-shaped}
use Rattle.pipapo_image.proofs.Items.{a-table}
use Rattle.pipapo_image.proofs.Renewal.{apart}
use Rattle.pipapo_image.proofs.RunLaws.{run-count, run-within}

-- ---- before the change
-- a table, or its replacement, has the rules of the list
pub chosen-rules : (run : Span) (t : FieldTable) (o : Option FieldTable) → IsOtherWithout run t o → (chosen o t).rules ≡ t.rules
chosen-rules run t None h = refl
chosen-rules run t (Some u) h = h.rules

-- it has pages of its own
chosen-own : (run : Span) (t : FieldTable) (o : Option FieldTable) → IsOtherWithout run t o → IsOwn run.first t.rules t → IsOwn run.first (chosen o t).rules (chosen o t)
chosen-own run t None h own = own
chosen-own run t (Some u) h own = h.own

pub runs-few : (kinds : List Kind) (es : List Element) (index : Index) (i : ℕ) (runs : List Span) → IsIndexOf kinds es index → AreRuns kinds es i runs (length kinds)
    → (f : ℕ) (t : FieldTable) → f < length index.fields → (run_at runs f).first + (run_at runs f).count ≤ (get_or index.fields f t).rules
runs-few kinds es index i runs is r f t h =
    let n = is.fields.one_each in
    let l : f < length kinds = omega arith in
    let a = run-within kinds es i f (run_at runs f) (r.each f (record { first = 0; count = 0 }) l) in
    let b = field-rules kinds es index f t is l in
    omega arith

pub droppable : (kinds : List Kind) (es : List Element) (index : Index) (i : ℕ) (runs : List Span) (others : List (Option FieldTable)) → IsImage kinds es index → i < length es
    → AreRuns kinds es i runs (length kinds) → AreOthersWithout index.fields runs others (length index.fields) → OwnsRuns index runs → IsDroppable index others runs
droppable kinds es index i runs others image h r o own =
    let n = image.tables.fields.one_each in
    let m = image.tables.maps.one_fewer in
    let some = image.some in
    let none : Span = record { first = 0; count = 0 } in
    let e = get_or es i no_element in
    let whole = apart es i no_element h in
    let shaped = image-shaped kinds es index image in
    let long = r.one_each in
    let last : length kinds - 1 < length kinds = omega arith in
    let top : length runs - 1 ≡ length kinds - 1 = ap (λ z. z - 1) long in
    record {
      some = omega arith;
      fields = record {
        one_each = omega arith;
        one_other = o.one_each;
        within = λ f t l.
            let a = runs-few kinds es index i runs image.tables r f t l in
            let b = chosen-rules (run_at runs f) (get_or index.fields f t) (get_or others f None) (o.each f None l t) in
            omega arith;
        own = λ f t l. chosen-own (run_at runs f) (get_or index.fields f t) (get_or others f None) (o.each f None l t) (own.fields f t l);
      };
      maps = record {
        one_more = omega arith;
        within = λ f d l.
            let t = a-table index.fields (omega arith) in
            let a = runs-few kinds es index i runs image.tables r f t (omega arith) in
            let b = shaped.walk.one_each f t d l in
            omega arith;
        later = λ f d l.
            let g : f < length kinds = omega arith in
            let g2 : suc f < length kinds = omega arith in
            let here = r.each f none g in
            let count = run-count kinds es i f (run_at runs f) h here in
            let next = run-count kinds es i (suc f) (run_at runs (suc f)) h (r.each (suc f) none g2) in
            rw (image.tables.maps.each f d l, here.begins, count, next)
            (subst (λ z. All (λ s. length (split kinds (suc f) e) ≤ s.first) (drop (length (field_rules kinds f (take i es)) + length (split kinds f e)) (field_spans kinds f z))) (sym whole)
            (spans-later (split kinds f) (split kinds (suc f)) (take i es) (drop (suc i) es) e));
        own = own.maps;
      };
      ends_own = own.ends;
      ends_within =
          let t = a-table index.fields (omega arith) in
          let a = runs-few kinds es index i runs image.tables r (length kinds - 1) t (omega arith) in
          let b = shaped.one_end_each t in
          let q : length index.fields - 1 ≡ length kinds - 1 = ap (λ z. z - 1) n in
          let b2 : length index.ends.items ≡ (get_or index.fields (length kinds - 1) t).rules = b ∙ ap (λ z. (get_or index.fields z t).rules) q in
          rw top (omega arith);
      ends_later =
          let here = r.each (length kinds - 1) none last in
          let count = run-count kinds es i (length kinds - 1) (run_at runs (length kinds - 1)) h here in
          rw (top, here.begins, count, image.tables.ends)
          (subst (λ z. All (λ s. 1 ≤ s.place) (drop (length (field_rules kinds (length kinds - 1) (take i es)) + length (split kinds (length kinds - 1) e)) (last_ends kinds z))) (sym whole)
          (ends-later (split kinds (length kinds - 1)) (take i es) (drop (suc i) es) e));
    }

-- ---- after it
length-without : {X : Type 0} (xs : List X) (first n : ℕ) → first + n ≤ length xs → length (without_run xs first n) + n ≡ length xs
length-without xs first n h =
    let a = length-append (take first xs) (drop (first + n) xs) in
    let b = length-take-le first xs (omega arith) in
    let c = length-drop (first + n) xs in
    omega arith

shrunk-table : (k : Kind) (rules : List Block) (run : Span) (t b : FieldTable) (o : Option FieldTable) → IsTableOf k rules t → IsOtherWithout run t o → IsShrunk run (chosen o t) b
    → IsTableOf k (without_run rules run.first run.count) b
shrunk-table k rules run t b None s other g =
    let stands = g.stands rules s.stands in
    let m = s.stands.one_each in
    let q = g.rules in
    let left : t.rules - run.count ≡ length (without_run rules run.first run.count) = (let e : t.rules - run.count ≡ b.rules = omega arith in e) ∙ sym stands.one_each in
    record {
      bits = g.bits ∙ s.bits;
      width = g.width ∙ other ∙ ap (λ z. width_of z (t.rules - run.count)) s.bits ∙ ap (λ z. width_of (bits_of k) z) left;
      stands = stands;
    }
shrunk-table k rules run t b (Some u) s other g =
    let stands = g.stands rules (other.stands rules s.stands) in
    let m = s.stands.one_each in
    let q = g.rules in
    let same = other.rules in
    let left : t.rules - run.count ≡ length (without_run rules run.first run.count) = (let e : t.rules - run.count ≡ b.rules = omega arith in e) ∙ sym stands.one_each in
    record {
      bits = g.bits ∙ other.bits ∙ s.bits;
      width = g.width ∙ other.width ∙ ap (λ z. width_of z (t.rules - run.count)) s.bits ∙ ap (λ z. width_of (bits_of k) z) left;
      stands = stands;
    }

rules-left : (kinds : List Kind) (es : List Element) (i f : ℕ) (run : Span) → i < length es → IsElementRun kinds es i f run → without_run (field_rules kinds f es) run.first run.count ≡ field_rules kinds f (remove es i)
rules-left kinds es i f run h r =
    let e = get_or es i no_element in
    let count = run-count kinds es i f run h r in
    ap (λ z. without_run (field_rules kinds f es) z run.count) r.begins
    ∙ ap (λ z. without_run (field_rules kinds f es) (length (field_rules kinds f (take i es))) z) count
    ∙ ap (λ z. without_run (field_rules kinds f z) (length (field_rules kinds f (take i es))) (length (split kinds f e))) (apart es i no_element h)
    ∙ rules-without (split kinds f) (take i es) (drop (suc i) es) e

-- the elements' tables, without one element
pub index-shrunk : (kinds : List Kind) (es : List Element) (old new : Index) (i : ℕ) (runs : List Span) (others : List (Option FieldTable)) → 1 ≤ length kinds → i < length es
    → IsIndexOf kinds es old → AreRuns kinds es i runs (length kinds) → AreOthersWithout old.fields runs others (length old.fields) → IsDropped old new others runs
    → IsIndexOf kinds (remove es i) new
index-shrunk kinds es old new i runs others some h is r o d =
    let n = is.fields.one_each in
    let m = is.maps.one_fewer in
    let none : Span = record { first = 0; count = 0 } in
    let e = get_or es i no_element in
    let whole = apart es i no_element h in
    record {
      fields = record {
        one_each = d.fields.len ∙ n;
        each = λ f k t l.
            let g : f < length old.fields = omega arith in
            let run = run_at runs f in
            subst (λ z. IsTableOf (get_or kinds f k) z (get_or new.fields f t)) (rules-left kinds es i f run h (r.each f none l))
            (shrunk-table (get_or kinds f k) (field_rules kinds f es) run (get_or old.fields f t) (get_or new.fields f t) (get_or others f None)
            (is.fields.each f k t l) (o.each f None g t) (d.fields.done f t g g));
      };
      maps = record {
        one_fewer = ap (λ z. z + 1) d.maps.len ∙ m;
        each = λ f q l.
            let w = d.maps.len in
            let g : f < length old.maps = omega arith in
            let l1 : f < length kinds = omega arith in
            let l2 : suc f < length kinds = omega arith in
            let here = r.each f none l1 in
            let count = run-count kinds es i f (run_at runs f) h here in
            let next = run-count kinds es i (suc f) (run_at runs (suc f)) h (r.each (suc f) none l2) in
            d.maps.done f q g g
            ∙ ap (λ z. spans_without z (run_at runs f).first (run_at runs f).count (run_at runs (suc f)).count) (is.maps.each f q g)
            ∙ ap (λ z. spans_without (field_spans kinds f es) z (run_at runs f).count (run_at runs (suc f)).count) here.begins
            ∙ ap (λ z. spans_without (field_spans kinds f es) (length (field_rules kinds f (take i es))) z (run_at runs (suc f)).count) count
            ∙ ap (λ z. spans_without (field_spans kinds f es) (length (field_rules kinds f (take i es))) (length (split kinds f e)) z) next
            ∙ ap (λ z. spans_without (field_spans kinds f z) (length (field_rules kinds f (take i es))) (length (split kinds f e)) (length (split kinds (suc f) e))) whole
            ∙ spans-without (split kinds f) (split kinds (suc f)) (take i es) (drop (suc i) es) e;
      };
      ends =
          let top : length runs - 1 ≡ length kinds - 1 = ap (λ z. z - 1) r.one_each in
          let l : length kinds - 1 < length kinds = omega arith in
          let here = r.each (length kinds - 1) none l in
          let count = run-count kinds es i (length kinds - 1) (run_at runs (length kinds - 1)) h here in
          d.ends
          ∙ ap (λ z. ends_without z (run_at runs (length runs - 1)).first (run_at runs (length runs - 1)).count) is.ends
          ∙ ap (λ z. ends_without (last_ends kinds es) (run_at runs z).first (run_at runs z).count) top
          ∙ ap (λ z. ends_without (last_ends kinds es) z (run_at runs (length kinds - 1)).count) here.begins
          ∙ ap (λ z. ends_without (last_ends kinds es) (length (field_rules kinds (length kinds - 1) (take i es))) z) count
          ∙ ap (λ z. ends_without (last_ends kinds z) (length (field_rules kinds (length kinds - 1) (take i es))) (length (split kinds (length kinds - 1) e))) whole
          ∙ ends-without (split kinds (length kinds - 1)) (take i es) (drop (suc i) es) e;
    }

pub shrink : (kinds : List Kind) (es : List Element) (old new : Index) (i : ℕ) (runs : List Span) (others : List (Option FieldTable)) → IsImage kinds es old → i < length es
    → AreRuns kinds es i runs (length kinds) → AreOthersWithout old.fields runs others (length old.fields) → IsDropped old new others runs → IsImage kinds (remove es i) new
shrink kinds es old new i runs others image h r o d =
    let P : Element → Type 0 = λ z. parts_fit kinds z.parts ≡ true in
    record {
      some = image.some;
      few_kinds = image.few_kinds;
      fit = All-append P (take i es) (drop (suc i) es) (All-take P i es image.fit) (All-drop P (suc i) es image.fit);
      tables = index-shrunk kinds es old new i runs others image.some h image.tables r o d;
      few_rules = λ f l.
          let run = run_at runs f in
          let is = r.each f (record { first = 0; count = 0 }) l in
          let few = image.few_rules f l in
          let left = ap length (rules-left kinds es i f run h is) in
          let n = length-without (field_rules kinds f es) run.first run.count (run-within kinds es i f run is) in
          omega arith;
    }

-- ---- the answer of a deletion
pub removed-at : (s : State) (parts : List Interval) (now i : ℕ) → exact_place s parts now ≡ Some i → removed s parts now ≡ Some ((element_at s i).id, without_at s i)
removed-at s parts now i h = ap (option_map (λ j. ((element_at s j).id, without_at s j))) h

-- so it isn't missing
pub never_missing : (s : State) (parts : List Interval) (now i : ℕ) → Some i ≡ exact_place s parts now → removed s parts now ≡ None → ⊥
never_missing s parts now i h none = let one = removed-at s parts now i (sym h) in absurd (cc (one, none))
