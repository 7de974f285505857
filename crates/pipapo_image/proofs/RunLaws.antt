-- The places of an element's rules in each field, from one field to the next.
use Rattle.std.proofs.Common.{◌≡◌, refl, sym, ◌∙◌, ap, subst, ℕ, suc, ◌+◌, ◌<◌, ◌≤◌, true, List, length, take, get_or, slice_get, Some, arith, add-one}
use Rattle.std.specs.Prelude.{All}
use Rattle.std.proofs.lemmas.List.Elements.{All-weaker, All-get_or}
use Rattle.std.proofs.lemmas.Option.{slice_get-get_or, get_or_from_slice_get}
use Rattle.range_expand.proofs.CountLaws.{length-some}
use Rattle.set_model.specs.declared.kind.Kind.{Kind}
use Rattle.set_model.specs.declared.kind.Kind.TheVariants.{Ipv4}
use Rattle.set_model.specs.declared.kind.Interval.{Interval}
use Rattle.set_model.specs.declared.element.Element.{Element}
use Rattle.set_model.specs.Kind.{bits_of}
use Rattle.set_model.specs.Blocks.{blocks}
use Rattle.set_model.specs.Key.{parts_fit}
use Rattle.set_model.specs.SetState.{field_blocks, field_rules}
use Rattle.set_tables.specs.declared.Span.{Span}
use Rattle.set_tables.specs.Tables.{split, field_spans}
use Rattle.set_tables.proofs.UpdateLaws.{length-spans}
use Rattle.mapping_table.specs.Spared.{Spared}
use Rattle.expiry_scan.proofs.PlaceLaws.{no_element}
use Rattle.pipapo_image.specs.Index.Runs.{IsElementRun}
use Rattle.pipapo_image.proofs.EndLaws.{rules-front}
use Rattle.pipapo_image.proofs.GrowLaws.{interval-at, column-of}
use Rattle.pipapo_image.proofs.ImageUse.{parts-long}
use Rattle.pipapo_image.proofs.Renewal.{rules-next}
use Rattle.pipapo_image.proofs.SpanLaws.{span-at}

-- intervals that fit have at least one rule in each field
pub some-rules : (kinds : List Kind) (parts : List Interval) (f : ℕ) → parts_fit kinds parts ≡ true → f < length kinds → 1 ≤ length (field_blocks kinds f parts)
some-rules kinds parts f fit h =
    let n = parts-long kinds parts fit in
    let none : Interval = record { low = 0; high = 0 } in
    let k = get_or kinds f Ipv4 in
    let p = get_or parts f none in
    let a = slice_get-get_or kinds f Ipv4 h in
    let b = slice_get-get_or parts f none (omega arith) in
    let good = interval-at kinds parts f k p fit a b in
    let some = length-some p.low p.high (bits_of k) good.order in
    let e = ap length (column-of kinds parts f k p (blocks p.low p.high (bits_of k)) fit a b refl).split in
    omega arith

pub all-some : (kinds : List Kind) (es : List Element) (f : ℕ) → All (λ e. parts_fit kinds e.parts ≡ true) es → f < length kinds → All (λ e. 1 ≤ length (split kinds f e)) es
all-some kinds es f fit h =
    let P : Element → Type 0 = λ e. parts_fit kinds e.parts ≡ true in
    let Q : Element → Type 0 = λ e. 1 ≤ length (split kinds f e) in
    All-weaker P Q (λ e g. some-rules kinds e.parts f g h) es fit

pub some-at : (kinds : List Kind) (es : List Element) (i f : ℕ) → All (λ e. parts_fit kinds e.parts ≡ true) es → i < length es → f < length kinds → 1 ≤ length (split kinds f (get_or es i no_element))
some-at kinds es i f fit h l =
    let P : Element → Type 0 = λ e. parts_fit kinds e.parts ≡ true in
    some-rules kinds (get_or es i no_element).parts f (All-get_or P es i no_element h fit) l

-- a run is the rules of one element, within the field's rules
pub run-count : (kinds : List Kind) (es : List Element) (i f : ℕ) (run : Span) → i < length es → IsElementRun kinds es i f run → run.count ≡ length (split kinds f (get_or es i no_element))
run-count kinds es i f run h r =
    let n = rules-next (split kinds f) es i no_element h in
    let a = r.begins in
    let b = r.ends in
    omega arith

pub run-within : (kinds : List Kind) (es : List Element) (i f : ℕ) (run : Span) → IsElementRun kinds es i f run → run.first + run.count ≤ length (field_rules kinds f es)
run-within kinds es i f run r =
    let n = rules-front (split kinds f) es (i + 1) in
    let b = r.ends in
    omega arith

pub run-inside : (kinds : List Kind) (es : List Element) (i f : ℕ) (run : Span) (m : Spared Span) → i < length es → All (λ e. parts_fit kinds e.parts ≡ true) es → f < length kinds
    → m.items ≡ field_spans kinds f es → IsElementRun kinds es i f run → run.first < length m.items
run-inside kinds es i f run m h fit l e r =
    let n = ap length e ∙ length-spans (split kinds f) (split kinds (suc f)) 0 es in
    let a = run-within kinds es i f run r in
    let b = run-count kinds es i f run h r in
    let some = some-at kinds es i f fit h l in
    omega arith

-- the span of the first rule of a run is the run of the next field
pub run-next : (kinds : List Kind) (es : List Element) (i f : ℕ) (run next : Span) (m : Spared Span) → i < length es → All (λ e. parts_fit kinds e.parts ≡ true) es → f < length kinds
    → m.items ≡ field_spans kinds f es → IsElementRun kinds es i f run → slice_get m.items run.first ≡ Some next → IsElementRun kinds es i (f + 1) next
run-next kinds es i f run next m h fit l e r s =
    let e1 = get_or es i no_element in
    let found : get_or m.items run.first next ≡ next = get_or_from_slice_get m.items run.first next next s in
    let at : get_or (field_spans kinds f es) (length (field_rules kinds f (take i es))) next ≡ record { first = 0 + length (field_rules kinds (suc f) (take i es)); count = length (split kinds (suc f) e1) } =
    span-at (split kinds f) (split kinds (suc f)) 0 es i no_element next h (some-at kinds es i f fit h l) in
    let here : next ≡ record { first = 0 + length (field_rules kinds (suc f) (take i es)); count = length (split kinds (suc f) e1) } =
    sym found ∙ ap (λ z. get_or z run.first next) e ∙ ap (λ z. get_or (field_spans kinds f es) z next) r.begins ∙ at in
    let first = ap (λ z. z.first) here in
    let count = ap (λ z. z.count) here in
    let n = rules-next (split kinds (suc f)) es i no_element h in
    let is : IsElementRun kinds es i (suc f) next = record { begins = omega arith; ends = omega arith } in
    subst (λ z. IsElementRun kinds es i z next) (sym (add-one f)) is
